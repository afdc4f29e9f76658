-- The rows that go, their edits, and what settling says.
use Rattle.std.proofs.Common.{◌≡◌, List, subst, sym, ◌∙◌, arith}
use Rattle.std.specs.Prelude.{All}
use Rattle.std.proofs.lemmas.Result.{err_from_is_err_and, on_ok_weaker}
use Rattle.ob_cache.proofs.CallerLemmas.{stays-then}
use Rattle.ob_rows.proofs.CallerLemmas.{err-later, err-map, refused_later, rose_from, stays-at_rest, stays-itself, stays-rests, unasked-cause}
use Rattle.ob_unlink.proofs.Deleted.{bars-stop, covers-of, edits-below, edits-fit, settles-all, stops-all}
use Rattle.ob_rows.specs.Settling.{BreaksField}
use Rattle.ob_unlink.specs.DeletionSteps.{AreFit, Covers, IsBarredBy, IsMakingNone, IsStoppedBy, MayAllGo, deletion_edits}
use Rattle.ob_rows.specs.Rights.{rows_named}
use Rattle.ob_unlink.proofs.unlinking.delete_all.Goals as goal
use Rattle.ob_schema.specs.Models.{IsRegistry}
use Rattle.ob_schema.specs.declared.info.ModelInfo.{ModelInfo}

pub returns-in_err-deletion-clause-refused : goal.returns-in_err-deletion-clause-refused
returns-in_err-deletion-clause-refused g c =
    let p = err_from_is_err_and c.from_residual.result c.from_residual.ensures.1 in
    rw (p.1, p.2) (λ tables rests there.
    (stays-rests _ _ _ _ c.deletion_of.ensures.same tables rests, unasked-cause _ (IsStoppedBy c.args.engine.now.held.models tables (rows_named c.args.model c.args.ids.now)) c.in_err-deletion.field-0.0 c.in_err-deletion.ensures.causes))

pub returns-in_err-deletion-clause-causes : goal.returns-in_err-deletion-clause-causes
returns-in_err-deletion-clause-causes g c =
    let p = err_from_is_err_and c.from_residual.result c.from_residual.ensures.1 in
    rw (p.1, p.2) (unasked-cause _ (BreaksField c.args.engine.now.held.models) c.in_err-deletion.field-0.0 c.in_err-deletion.ensures.causes)

pub returns-in_err-deletion-clause-rests : goal.returns-in_err-deletion-clause-rests
returns-in_err-deletion-clause-rests g c = stays-at_rest _ _ _ _ c.deletion_of.ensures.same c.requires.rest

pub deletion_edits-requires-clause-fit : goal.deletion_edits-requires-clause-fit
deletion_edits-requires-clause-fit g c =
    subst (λ (ms : List ModelInfo). AreFit ms c.in_ok-deletion.deletion.rows c.in_ok-deletion.deletion.cells) (sym c.deletion_of.ensures.same.models) c.in_ok-deletion.ensures.fit

pub deletion_edits-requires-clause-rest : goal.deletion_edits-requires-clause-rest
deletion_edits-requires-clause-rest g c = c.deletion_of.ensures.same.phase_is ∙ c.requires.rest.phase_is

pub returns-in_err-edits-clause-refused : goal.returns-in_err-edits-clause-refused
returns-in_err-edits-clause-refused g c =
    let p = err_from_is_err_and c.from_residual-in_err-edits.result c.from_residual-in_err-edits.ensures.1 in
    let models = c.args.engine.now.held.models in
    let some = rows_named c.args.model c.args.ids.now in
    let rows = c.in_ok-deletion.deletion.rows in let cells = c.in_ok-deletion.deletion.cells in
    let first = c.deletion_of.ensures.same in let both = stays-then _ _ _ _ _ _ first c.deletion_edits.ensures.same in
    rw (p.1, p.2) (λ tables rests there.
    let deletion = c.in_ok-deletion.ensures.told tables rests in
    let covers = covers-of models tables rows cells c.args.model c.args.ids.now there deletion in (
      stays-rests _ _ _ _ both tables rests,
      refused_later _ _ _ c.deletion_of.ensures.count _ (IsStoppedBy models tables some) c.in_err-edits.field-0.0
          (λ w bars. bars-stop models tables rows cells some deletion.goes w (subst (λ (ms : List ModelInfo). IsBarredBy ms tables rows w) first.models bars))
          (c.in_err-edits.ensures.refused tables (stays-rests _ _ _ _ first tables rests) (subst (λ (ms : List ModelInfo). Covers ms tables rows cells) (sym first.models) covers)),
    ))

pub returns-in_err-edits-clause-causes : goal.returns-in_err-edits-clause-causes
returns-in_err-edits-clause-causes g c =
    let p = err_from_is_err_and c.from_residual-in_err-edits.result c.from_residual-in_err-edits.ensures.1 in
    rw (p.1, p.2)
    (refused_later _ _ _ c.deletion_of.ensures.count _ (BreaksField c.args.engine.now.held.models) c.in_err-edits.field-0.0
    (λ w breaks. subst (λ (ms : List ModelInfo). BreaksField ms w) c.deletion_of.ensures.same.models breaks) c.in_err-edits.ensures.causes)

pub returns-in_err-edits-clause-rests : goal.returns-in_err-edits-clause-rests
returns-in_err-edits-clause-rests g c = stays-at_rest _ _ _ _ (stays-then _ _ _ _ _ _ c.deletion_of.ensures.same c.deletion_edits.ensures.same) c.requires.rest

pub settle_edits-requires-clause-fit : goal.settle_edits-requires-clause-fit
settle_edits-requires-clause-fit g c =
    let fit = subst (λ (ms : List ModelInfo). All (IsMakingNone ms) c.in_ok-edits.edits.items) (sym c.deletion_edits.ensures.same.models) c.in_ok-edits.ensures.fit in
    rw c.as_slice.ensures.value (edits-fit c.deletion_edits.new.engine.held.models c.in_ok-edits.edits.items fit)

pub settle_edits-requires-clause-below : goal.settle_edits-requires-clause-below
settle_edits-requires-clause-below g c = rw c.as_slice.ensures.value (edits-below c.deletion_of.new.engine.held.models c.in_ok-edits.edits.items c.in_ok-edits.ensures.fit)

pub settle_edits-requires-clause-rest : goal.settle_edits-requires-clause-rest
settle_edits-requires-clause-rest g c = stays-itself _ _ _ _ (stays-then _ _ _ _ _ _ c.deletion_of.ensures.same c.deletion_edits.ensures.same) c.requires.rest

pub returns-clause-settled : goal.returns-clause-settled
returns-clause-settled g c =
    let old = c.args.engine.now in let new = c.settle_edits.new.engine in
    let first = c.deletion_of.ensures.same in
    let rows = c.in_ok-deletion.deletion.rows in let cells = c.in_ok-deletion.deletion.cells in
    let edits = c.in_ok-edits.edits.items in
    on_ok_weaker c.settle_edits.result
    (settles-all (g.K.Keeper.kept old.keeper.now) _ (g.K.Keeper.kept new.keeper.now) old.held _ new.held (stays-then _ _ _ _ _ _ first c.deletion_edits.ensures.same)
    (subst IsRegistry c.schema.ensures c.parts_fit_together.ensures) c.args.model c.args.ids.now rows cells edits c.as_slice.result.now c.as_slice.ensures.value c.in_ok-deletion.ensures.told
    (λ tables rests covers.
    subst (λ (ms : List ModelInfo). MayAllGo ms tables rows × (edits ≡ deletion_edits ms tables rows cells)) first.models
    (c.in_ok-edits.ensures.told tables (stays-rests _ _ _ _ first tables rests) (subst (λ (ms : List ModelInfo). Covers ms tables rows cells) (sym first.models) covers))))
    c.settle_edits.ensures.settled

pub returns-clause-refused : goal.returns-clause-refused
returns-clause-refused g c =
    let old = c.args.engine.now in let new = c.settle_edits.new.engine in let faults = g.K.Keeper.faults in
    let middle = c.deletion_edits.new.engine in
    let first = c.deletion_of.ensures.same in
    let rows = c.in_ok-deletion.deletion.rows in let cells = c.in_ok-deletion.deletion.cells in
    let edits = c.in_ok-edits.edits.items in
    err-map c.settle_edits.result _ _
    (λ w refused.
    stops-all (g.K.Keeper.kept old.keeper.now) _ (g.K.Keeper.kept new.keeper.now) old.held _ new.held (stays-then _ _ _ _ _ _ first c.deletion_edits.ensures.same)
    (subst IsRegistry c.schema.ensures c.parts_fit_together.ensures) c.args.model c.args.ids.now rows cells edits c.as_slice.result.now c.as_slice.ensures.value c.in_ok-deletion.ensures.told
    (λ tables rests covers.
    subst (λ (ms : List ModelInfo). MayAllGo ms tables rows × (edits ≡ deletion_edits ms tables rows cells)) first.models
    (c.in_ok-edits.ensures.told tables (stays-rests _ _ _ _ first tables rests) (subst (λ (ms : List ModelInfo). Covers ms tables rows cells) (sym first.models) covers)))
    _ _ w (rose_from (faults old.keeper.now) (faults middle.keeper.now) (faults new.keeper.now) (omega (arith, c.deletion_of.ensures.count, c.deletion_edits.ensures.count))) refused)
    c.settle_edits.ensures.refused

pub returns-clause-causes : goal.returns-clause-causes
returns-clause-causes g c =
    let both = stays-then _ _ _ _ _ _ c.deletion_of.ensures.same c.deletion_edits.ensures.same in
    err-later c.settle_edits.result _ _ _ (omega (arith, c.deletion_of.ensures.count, c.deletion_edits.ensures.count)) _ (BreaksField c.args.engine.now.held.models)
    (λ w breaks. subst (λ (ms : List ModelInfo). BreaksField ms w) both.models breaks) c.settle_edits.ensures.causes

pub returns-clause-rests : goal.returns-clause-rests
returns-clause-rests g c =
    let says = c.settle_edits.ensures in
    let both = stays-then _ _ _ _ _ _ c.deletion_of.ensures.same c.deletion_edits.ensures.same in
    record { models_are = says.models ∙ both.models; phase_is = says.phase; next_ids = says.next_ids }
