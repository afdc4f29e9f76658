-- What the relations so far lead to is added, by an engine that stays.
use Rattle.std.proofs.Common.{◌≡◌, ◌≤◌, take}
use Rattle.std.specs.Prelude.{Any}
use Rattle.ob_cache.specs.Standing.{RestsAt, Stays}
use Rattle.ob_unlink.specs.DeletionSteps.{AddsCells, AreFit, KeepsCount, LeadsBy, TakesBy, TakesMore}
use Rattle.ob_unlink.proofs.unlinking.deletion.add_holders.Given as goal
use Rattle.ob_schema.specs.Tables.{Tables}

abbrev pub invariant-loop-relation : goal.invariant-loop-relation
invariant-loop-relation g l = record {
  rows : (tables : Tables) → RestsAt (g.K.Keeper.kept l.fn.engine.keeper.now) l.fn.engine.held tables
      → TakesMore l.fn.rows l.rows l.fn.waiting.items l.waiting.items (λ other. Any (λ relation. TakesBy tables relation l.row other) (take l.relation-index l.relations));
  cells : (tables : Tables) → RestsAt (g.K.Keeper.kept l.fn.engine.keeper.now) l.fn.engine.held tables
      → AddsCells l.fn.cells l.cells (λ cell. Any (λ relation. LeadsBy tables relation l.row cell) (take l.relation-index l.relations));
  kept_count : KeepsCount l.fn.rows l.rows l.fn.waiting.items l.waiting.items;
  fit : AreFit l.fn.engine.held.models l.fn.rows l.fn.cells → AreFit l.fn.engine.held.models l.rows l.cells;
  same : Stays (g.K.Keeper.kept l.fn.engine.keeper.now) l.fn.engine.held (g.K.Keeper.kept l.engine.keeper.now) l.engine.held;
  count : g.K.Keeper.faults l.fn.engine.keeper.now ≤ g.K.Keeper.faults l.engine.keeper.now;
  lender : l.engine.keeper.ghost_name ≡ l.fn.engine.keeper.ghost_name;
}
