use Rattle.std.proofs.Common.{◌≡◌, ◌+◌, None, List, refl, subst, sym, ◌∙◌, arith}
use Rattle.ob_base.specs.declared.id.ModelNo.{ModelNo}
use Rattle.ob_cache.specs.Changing.{KeepsOthers}
use Rattle.ob_cache.proofs.Gathering.{ChangedTo, changed-all, changed-more, changed-none, changed-passed}
use Rattle.ob_cache.proofs.KeptValues.{found-none, found-there}
use Rattle.ob_cache.proofs.OnceEach.{others-among}
use Rattle.ob_schema.specs.Models.{HasModel, model_at}
use Rattle.ob_schema.specs.declared.info.ModelInfo.{ModelInfo}
use Rattle.ob_cache.proofs.flushing.changes.Goals as goal
use Rattle.ob_cache.proofs.flushing.changes.Goals.{then-is_some+in_ok-add_next, else-is_some}

pub row_changes-requires-clause-others : goal.row_changes-requires-clause-others
row_changes-requires-clause-others c =
    let old = c.args.old.now in
    let new = c.args.new.now in
    subst (KeepsOthers old new) (sym c.as_slice.ensures.value) (others-among old new c.args.keys.now c.in_ok-rows.rows.items c.requires.others c.in_ok-rows.ensures)

pub loop-place-init : goal.loop-place-init
loop-place-init c = changed-none c.args.old.now c.args.new.now c.in_ok-changes.changes c.in_ok-changes.ensures

pub add_next-requires-clause-fits : goal.add_next-requires-clause-fits
add_next-requires-clause-fits c =
    let model : ModelNo = record { 0 = c.loop-place.place + 1 } in
    c.requires.next_ids model (found-there (λ i. i.now) c.find_model.result (model_at c.args.schema.now model) c.find_model.ensures (sym c.is_some.ensures ∙ c.if-is_some.true))

pub loop-place-preserved : goal.loop-place-preserved
loop-place-preserved c =
    let old = c.args.old.now in
    let new = c.args.new.now in
    let place = c.loop-place.place in
    let model : ModelNo = record { 0 = place + 1 } in
    elim c.if-is_some.branch [
      | then-is_some+in_ok-add_next w ↦
          let has : HasModel old.models model = subst (λ (m : List ModelInfo). HasModel m model) (sym c.requires.old)
          (found-there (λ i. i.now) c.find_model.result (model_at c.args.schema.now model) c.find_model.ensures (sym c.is_some.ensures ∙ w.if-is_some.true)) in
          let next = w.in_ok-add_next.ensures in
          subst (ChangedTo old new (place + 1)) (sym w.changes-is)
          (changed-more old new place model refl c.loop-place.changes c.loop-place.invariant has w.add_next.new.changes next.fit next.rows next.others next.next)
      | else-is_some w ↦ subst (ChangedTo old new (place + 1)) (sym w.changes-is)
          (changed-passed old new place model refl c.loop-place.changes c.loop-place.invariant
          (subst (λ (m : List ModelInfo). model_at m model ≡ None) (sym c.requires.old)
          (found-none (λ i. i.now) c.find_model.result (model_at c.args.schema.now model) c.find_model.ensures (sym c.is_some.ensures ∙ w.if-is_some.false))))
    ]

pub returns : goal.returns
returns c = changed-all c.args.old.now c.args.new.now c.laws.ensures.registry c.loop-place.place (omega (arith, c.loop-place-test.false)) c.loop-place.changes c.loop-place.invariant
