-- The rows so far may go, by an engine that stays.
use Rattle.std.proofs.Common.{◌≡◌, ◌≤◌, take}
use Rattle.std.specs.Prelude.{All, IsSome}
use Rattle.ob_base.specs.declared.id.RowKey.{RowKey}
use Rattle.ob_cache.specs.Standing.{RestsAt, Stays}
use Rattle.ob_unlink.specs.DeletionSteps.{MayGo}
use Rattle.ob_unlink.proofs.unlinking.barring.test_rows.Given as goal
use Rattle.ob_schema.specs.Tables.{Tables, row_at}

abbrev pub invariant-loop-row : goal.invariant-loop-row
invariant-loop-row g l = record {
  ok : (tables : Tables) → RestsAt (g.K.Keeper.kept l.fn.engine.keeper.now) l.fn.engine.held tables
      → All (λ (row : RowKey). IsSome (row_at tables row.model row.id)) l.rows → All (MayGo l.fn.engine.held.models tables) (take l.row-index l.rows);
  same : Stays (g.K.Keeper.kept l.fn.engine.keeper.now) l.fn.engine.held (g.K.Keeper.kept l.engine.keeper.now) l.engine.held;
  count : g.K.Keeper.faults l.fn.engine.keeper.now ≤ g.K.Keeper.faults l.engine.keeper.now;
  lender : l.engine.keeper.ghost_name ≡ l.fn.engine.keeper.ghost_name;
}
