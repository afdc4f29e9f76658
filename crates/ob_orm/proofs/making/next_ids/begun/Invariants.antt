use Rattle.std.proofs.Common.{◌≡◌, ◌≤◌, Some}
use Rattle.std.specs.BTreeMap as tree
use Rattle.std.specs.Ordering.{nat_cmp}
use Rattle.ob_cache.specs.Standing.{RestsAt, Stays}
use Rattle.ob_orm.proofs.NextIds.{AreHeld, AreTheirs}
use Rattle.ob_orm.proofs.making.next_ids.begun.Given as goal
use Rattle.ob_schema.specs.Tables.{Tables}

-- the next ids of the first models are held
abbrev pub invariant-loop-place : goal.invariant-loop-place
invariant-loop-place g l = record {
  held : AreHeld l.fn.engine.held.models l.next_ids l.place;
  told : (tables : Tables) → RestsAt (g.K.Keeper.kept l.fn.engine.keeper.now) l.fn.engine.held tables → AreTheirs l.fn.engine.held.models tables l.next_ids l.place;
  same : Stays (g.K.Keeper.kept l.fn.engine.keeper.now) l.fn.engine.held (g.K.Keeper.kept l.engine.keeper.now) l.engine.held;
  count : g.K.Keeper.faults l.fn.engine.keeper.now ≤ g.K.Keeper.faults l.engine.keeper.now;
  lender : l.engine.keeper.ghost_name ≡ l.fn.engine.keeper.ghost_name;
}
