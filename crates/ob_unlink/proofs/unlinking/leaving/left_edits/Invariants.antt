-- The edits of the cells so far, by an engine that stays.
use Rattle.std.proofs.Common.{◌≡◌, ◌≤◌, take}
use Rattle.std.specs.Prelude.{All, IsSome}
use Rattle.ob_base.specs.declared.id.Cell.{Cell}
use Rattle.ob_cache.specs.Standing.{RestsAt, Stays}
use Rattle.ob_unlink.specs.DeletionSteps.{IsMakingNone}
use Rattle.ob_rows.specs.RowSets.{has_key}
use Rattle.ob_unlink.proofs.LeftEdits.{edits_for}
use Rattle.ob_unlink.proofs.unlinking.leaving.left_edits.Given as goal
use Rattle.ob_schema.specs.Tables.{Tables, kept_at}

abbrev pub invariant-loop-cell : goal.invariant-loop-cell
invariant-loop-cell g l = record {
  told : (tables : Tables) → RestsAt (g.K.Keeper.kept l.fn.engine.keeper.now) l.fn.engine.held tables
      → All (λ (cell : Cell). IsSome (kept_at tables cell)) l.cells → l.edits.items ≡ edits_for l.fn.engine.held.models (has_key l.rows) tables (take l.cell-index l.cells);
  fit : All (IsMakingNone l.fn.engine.held.models) l.edits.items;
  same : Stays (g.K.Keeper.kept l.fn.engine.keeper.now) l.fn.engine.held (g.K.Keeper.kept l.engine.keeper.now) l.engine.held;
  count : g.K.Keeper.faults l.fn.engine.keeper.now ≤ g.K.Keeper.faults l.engine.keeper.now;
  lender : l.engine.keeper.ghost_name ≡ l.fn.engine.keeper.ghost_name;
}
