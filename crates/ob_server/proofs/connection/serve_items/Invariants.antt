-- As many items were answered as turns were taken, and each took a byte at least.
use Rattle.std.proofs.Common.{◌≡◌, ◌≤◌, ℕ, List, Some}
use Rattle.ob_cache.specs.Kept.{OthersStay}
use Rattle.ob_cache.specs.Standing.{IsAtRest}
use Rattle.ob_server.specs.Exchange.{HasState, situation}
use Rattle.ob_server.specs.ExchangeSteps.{HasAnswered}
use Rattle.ob_server.specs.Machine.{State}
use Rattle.ob_server.proofs.connection.serve_items.Given as goal

abbrev pub invariant-loop-item : goal.invariant-loop-item
invariant-loop-item g l = record {
  exchange : (first : State) (stream : List ℕ) → HasState (situation g.K.Keeper g.C.Clock g.D.Door l.fn.engine l.fn.clock l.fn.door) first → g.D.Door.left l.fn.door ≡ Some stream
      → HasAnswered l.terms l._item first stream (situation g.K.Keeper g.C.Clock g.D.Door l.fn.engine l.fn.clock l.fn.door) l.held (situation g.K.Keeper g.C.Clock g.D.Door l.engine l.clock l.door);
  rests : IsAtRest l.fn.engine.held.models l.engine.held;
  door_count : g.D.Door.faults l.fn.door ≤ g.D.Door.faults l.door;
  keeper_count : g.K.Keeper.faults l.fn.engine.keeper.now ≤ g.K.Keeper.faults l.engine.keeper.now;
  others : (g.D.Door.coming l.door ≡ g.D.Door.coming l.fn.door) × (g.D.Door.next_faults l.door ≡ g.D.Door.next_faults l.fn.door);
  other_rows : OthersStay l.fn.engine.held.models (g.K.Keeper.kept l.fn.engine.keeper.now) (g.K.Keeper.kept l.engine.keeper.now);
  lender : l.engine.keeper.ghost_name ≡ l.fn.engine.keeper.ghost_name;
}
