use Rattle.std.proofs.Common.{◌≡◌, ℤ, [], List, eqb-true, length, subst, sym, ◌∙◌}
use Rattle.std.proofs.lemmas.List.{nil_from_length}
use Rattle.std.proofs.lemmas.Result.{on_err_weaker, on_ok_weaker}
use Rattle.ob_cache.specs.Calls.{settled_over, standpoint}
use Rattle.ob_cache.specs.Standing.{RestsAt, Stands}
use Rattle.ob_io.specs.Cause.{Rose}
use Rattle.ob_rows.proofs.CallerLemmas.{moment_passed, rose_from}
use Rattle.ob_install.proofs.InstalledRows.{kept-installs, none-installed}
use Rattle.ob_install.proofs.NewStores.{resting-sound}
use Rattle.ob_install.proofs.installing.install.Goals as goal
use Rattle.ob_install.specs.Install.{IsInstalled, installed}
use Rattle.ob_schema.specs.Broken.{Sound}
use Rattle.ob_schema.specs.Tables.{empty_tables}
use Rattle.ob_schema.specs.declared.info.ModelInfo.{ModelInfo}
use Rattle.ob_schema.specs.declared.preset.PresetRow.{PresetRow}

pub returns-then-is_empty-clause-answer : goal.returns-then-is_empty-clause-answer
returns-then-is_empty-clause-answer g c = λ tables rests.
    let engine = c.args.engine.now in
    let models = engine.held.models in
    let kept = g.K.Keeper.kept engine.keeper.now in
    let empty : tables ≡ empty_tables models = c.requires.new tables rests in
    let rows = c.args.preset.now.rows in
    let none : rows ≡ [] = sym c.as_slice-rows.ensures ∙ nil_from_length c.as_slice-rows.result.now (eqb-true (length c.as_slice-rows.result.now) 0 (sym c.is_empty.ensures ∙ c.if-is_empty.true)) in
    let sound : Sound models (empty_tables models) = subst (Sound models) empty (resting-sound kept engine.held tables rests).sound in
    (empty_tables models, none-installed models c.args.now rows none sound, subst (RestsAt kept engine.held) empty rests)

pub returns-clause-answer : goal.returns-clause-answer
returns-clause-answer g c = λ tables rests.
    let engine = c.args.engine.now in
    let models = engine.held.models in
    let mid = c.settle_preset.new.engine in
    let kept = g.K.Keeper.kept mid.keeper.now in
    let rows = c.args.preset.now.rows in
    let Settled : ℤ → List PresetRow → Type 0 = λ n rs. IsInstalled models n rs (installed models n rs).tables × Stands kept mid.held (settled_over models tables (installed models n rs).tables) in
    let settled : Settled c.args.now rows =
    subst (Settled c.args.now) c.as_slice-rows.ensures (subst (λ (n : ℤ). Settled n c.as_slice-rows.result.now) (moment_passed c.args.now c.requires.moment) (c.in_ok-settle_preset.ensures.settled tables rests)) in
    let new = (installed models c.args.now rows).tables in
    let stands : Stands kept mid.held (settled_over mid.held.models tables new) =
    subst (λ (ms : List ModelInfo). Stands kept mid.held (settled_over ms tables new)) (sym c.in_ok-settle_preset.ensures.rests.models_are) settled.1 in
    let before = standpoint g.K.Keeper engine in
    let after = standpoint g.K.Keeper c.keep.new.engine in
    kept-installs c.args.now rows before after (Rose (g.K.Keeper.faults mid.keeper.now) (g.K.Keeper.faults c.keep.new.engine.keeper.now))
    (rose_from (g.K.Keeper.faults engine.keeper.now) (g.K.Keeper.faults mid.keeper.now) (g.K.Keeper.faults c.keep.new.engine.keeper.now) c.in_ok-settle_preset.ensures.count)
    tables new settled.0 c.keep.result (on_ok_weaker c.keep.result (λ say. say tables new stands) c.keep.ensures.kept) (on_err_weaker c.keep.result (λ say. say tables new stands) c.keep.ensures.forgotten) c.keep.ensures.causes
