use Rattle.std.proofs.Common.{◌+◌, Option, ap, arith, refl, subst, sym, ◌∙◌}
use Rattle.ob_base.specs.declared.id.ModelNo.{ModelNo}
use Rattle.ob_audit.specs.Reading.{ReadsModels, ReadsRows, TellsAll, TellsNext}
use Rattle.std.proofs.lemmas.Result.{err_from_is_err_and}
use Rattle.ob_audit.proofs.ReadModels.{models-more, models-none, models-passed, models-stop, no-rows, there-as}
use Rattle.ob_audit.proofs.ReadPages.{rose-later}
use Rattle.ob_io.specs.Store.{Store}
use Rattle.ob_schema.specs.Models.{model_at}
use Rattle.ob_schema.specs.Tables.{Standing, Tables}
use Rattle.ob_audit.proofs.reading.read_models.Goals as goal
use Rattle.ob_audit.proofs.reading.read_models.Goals.{then-is_some+in_ok-next+in_ok-tables, else-is_some}

pub loop-place-init : goal.loop-place-init
loop-place-init g c =
    let kept = g.K.Keeper.kept c.args.keeper.now in
    record {
      models = ap (λ (s : Standing). s.models) c.empty-tables.ensures;
      read = subst (λ (t : Tables). ReadsModels c.args.schema.now kept 0 t c.args.rows.now c.args.rows.now) (sym (ap (λ (s : Standing). s.tables) c.empty-tables.ensures)) (models-none c.args.schema.now kept c.args.rows.now);
      same = refl;
      count = omega arith;
    }

pub with_next-requires-clause-above : goal.with_next-requires-clause-above
with_next-requires-clause-above g c = λ id there. absurd (no-rows c.loop-place.tables.tables c.loop-place.invariant.read.empty (record { 0 = c.loop-place.place + 1 }) id there)

pub loop-place-preserved : goal.loop-place-preserved
loop-place-preserved g c =
    let i = c.loop-place.invariant in
    let models = c.args.schema.now in
    let kept = g.K.Keeper.kept c.args.keeper.now in
    let place = c.loop-place.place in
    let model : ModelNo = record { 0 = place + 1 } in
    elim c.if-is_some.branch [
      | then-is_some+in_ok-next+in_ok-tables w ↦
          (let next = w.in_ok-next.next in
          rw (w.keeper-is, w.rows-is, w.tables-is, w.in_ok-tables.ensures) (record {
            models = i.models;
            read = models-more models kept place c.loop-place.tables.tables model next c.args.rows.now c.loop-place.rows w.read_model.new.rows refl w.in_ok-next.ensures.low w.in_ok-next.ensures.fits
                (subst (λ (o : Option Store). TellsNext o model next) i.same w.in_ok-next.ensures.next) i.read
                (subst (λ (o : Option Store). ReadsRows models model next (TellsAll o model) c.loop-place.rows w.read_model.new.rows) i.same w.in_ok-next.ensures.read);
            same = w.in_ok-next.ensures.same ∙ i.same;
            count = omega (arith, i.count, w.in_ok-next.ensures.count);
          }))
      | else-is_some w ↦
          rw (w.keeper-is, w.rows-is, w.tables-is) (record {
            models = i.models;
            read = models-passed models kept place c.loop-place.tables.tables model c.args.rows.now c.loop-place.rows refl
                (there-as (λ info. info.now) c.find_model.result (model_at models model) _ c.find_model.ensures (sym c.is_some.ensures ∙ w.if-is_some.false)) i.read;
            same = i.same;
            count = i.count;
          })
    ]

pub returns-in_err-next-clause-fault : goal.returns-in_err-next-clause-fault
returns-in_err-next-clause-fault g c =
    let p = err_from_is_err_and c.from_residual.result c.from_residual.ensures.1 in
    let i = c.loop-place.invariant in
    let kept = g.K.Keeper.kept c.args.keeper.now in
    let place = c.loop-place.place in
    rw (p.1, p.2) (models-stop c.args.schema.now kept (g.K.Keeper.kept c.loop-place.keeper) _ _ place c.loop-place.tables.tables (record { 0 = place + 1 }) c.in_err-next.field-0.0 c.args.rows.now c.loop-place.rows refl i.same
    (rose-later _ _ _ i.count) i.read c.in_err-next.ensures.fault)
