-- A search for all that goes, by an engine that stays.
use Rattle.std.proofs.Common.{◌≡◌, ◌+◌, ◌-◌, ◌*◌, ◌^◌, ◌≤◌, length}
use Rattle.ob_cache.specs.Standing.{RestsAt, Stays}
use Rattle.ob_unlink.specs.DeletionSteps.{AreFit}
use Rattle.ob_rows.specs.Rights.{rows_named}
use Rattle.ob_unlink.proofs.Searched.{IsSearch}
use Rattle.ob_unlink.proofs.unlinking.deletion.search.Given as goal
use Rattle.ob_schema.specs.Tables.{Tables}

abbrev pub invariant-loop-row : goal.invariant-loop-row
invariant-loop-row g l = record {
  told : (tables : Tables) → RestsAt (g.K.Keeper.kept l.fn.engine.keeper.now) l.fn.engine.held tables
      → IsSearch l.fn.engine.held.models tables (rows_named l.fn.model l.fn.ids) l.rows l.cells l.waiting.items;
  fit : AreFit l.fn.engine.held.models l.rows l.cells;
  same : Stays (g.K.Keeper.kept l.fn.engine.keeper.now) l.fn.engine.held (g.K.Keeper.kept l.engine.keeper.now) l.engine.held;
  count : g.K.Keeper.faults l.fn.engine.keeper.now ≤ g.K.Keeper.faults l.engine.keeper.now;
  lender : l.engine.keeper.ghost_name ≡ l.fn.engine.keeper.ghost_name;
}

abbrev pub decreases-loop-row : goal.decreases-loop-row
decreases-loop-row g l = 2 * (2 ^ 63 - length l.rows.keys) + length l.waiting.items
