-- The cells as a list; none restricts; their edits.
use Rattle.std.proofs.Common.{◌≡◌, List, map, subst, ◌∙◌}
use Rattle.std.specs.Prelude.{All, IfOk, IsSome}
use Rattle.std.proofs.lemmas.Result.{err_from_is_err_and}
use Rattle.ob_base.specs.declared.id.Cell.{Cell}
use Rattle.ob_cache.specs.Standing.{RestsAt}
use Rattle.ob_rows.proofs.CallerLemmas.{err-map, unasked-cause, whatever}
use Rattle.ob_unlink.proofs.Deleted.{cells-fields, cells-fit, restricts-told}
use Rattle.ob_unlink.specs.DeletionSteps.{IsRestricting, RestrictsBy, left_edit, staying}
use Rattle.ob_rows.specs.RowSets.{has_key}
use Rattle.ob_unlink.proofs.unlinking.cell_edits.Goals as goal
use Rattle.ob_schema.specs.Tables.{Tables, kept_at}

pub test_cells-requires : goal.test_cells-requires
test_cells-requires g c =
    let listed = c.as_slice.ensures.value ∙ c.in_ok-cells.ensures in
    record { fields = rw (c.schema.ensures, listed) (cells-fields c.args.engine.now.held.models c.args.deletion.now.rows c.args.deletion.now.cells c.requires.fit) }

pub left_edits-requires-clause-fields : goal.left_edits-requires-clause-fields
left_edits-requires-clause-fields g c =
    let listed = c.as_slice-2.ensures.value ∙ c.in_ok-cells.ensures in
    rw listed (cells-fit c.args.engine.now.held.models c.args.deletion.now.rows c.args.deletion.now.cells c.requires.fit)

pub returns-clause-free : goal.returns-clause-free
returns-clause-free g c =
    let listed = c.as_slice.ensures.value ∙ c.in_ok-cells.ensures in
    let free = rw (c.schema.ensures, listed) at c.in_ok-test_cells.ensures.ok in
    whatever c.left_edits.result (All (λ (cell : Cell). IsRestricting c.args.engine.now.held.models (has_key c.args.deletion.now.rows) cell → ⊥) c.args.deletion.now.cells.keys) free

pub returns-clause-told : goal.returns-clause-told
returns-clause-told g c =
    let old = c.args.engine.now in
    let gone = has_key c.args.deletion.now.rows in
    let listed = c.as_slice-2.ensures.value ∙ c.in_ok-cells.ensures in
    subst (λ (l : List Cell). IfOk c.left_edits.result (λ edits. (tables : Tables) → RestsAt (g.K.Keeper.kept old.keeper.now) old.held tables → All (λ cell. IsSome (kept_at tables cell)) l
    → edits.items ≡ map (left_edit old.held.models gone tables) (staying gone l))) listed c.left_edits.ensures.told

pub returns-clause-refused : goal.returns-clause-refused
returns-clause-refused g c =
    err-map c.left_edits.result _ _ (λ w h. unasked-cause _ (RestrictsBy c.args.engine.now.held.models c.args.deletion.now.rows c.args.deletion.now.cells) w h) c.left_edits.ensures.causes

pub returns-in_err-test_cells-clause-refused : goal.returns-in_err-test_cells-clause-refused
returns-in_err-test_cells-clause-refused g c =
    let p = err_from_is_err_and c.from_residual-in_err-test_cells.result c.from_residual-in_err-test_cells.ensures.1 in
    let listed = c.as_slice.ensures.value ∙ c.in_ok-cells.ensures in
    let (cell, among, restricts, is) = rw (c.schema.ensures, listed) at c.in_err-test_cells.ensures.refused in
    rw (p.1, p.2) (restricts-told c.args.engine.now.held.models c.args.deletion.now.rows c.args.deletion.now.cells _ c.in_err-test_cells.field-0.0 cell among restricts is)
