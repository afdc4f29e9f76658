-- As many connections were served as turns were taken.
use Rattle.std.proofs.Common.{◌≡◌, ◌≤◌, ℕ, List, Some}
use Rattle.ob_cache.specs.Kept.{OthersStay}
use Rattle.ob_cache.specs.Standing.{IsAtRest}
use Rattle.ob_server.specs.Exchange.{HasState, situation}
use Rattle.ob_server.specs.Machine.{State}
use Rattle.ob_server.specs.Outside.{doorway}
use Rattle.ob_server.specs.ReceptionSteps.{IsReceiving}
use Rattle.ob_server.proofs.serving.serve_connections.Given as goal

abbrev pub invariant-loop-visit : goal.invariant-loop-visit
invariant-loop-visit g l = record {
  reception : (first : State) (streams : List (List ℕ)) → g.D.Door.coming l.fn.door ≡ Some streams → HasState (situation g.K.Keeper g.C.Clock g.D.Door l.fn.engine l.fn.clock l.fn.door) first
      → IsReceiving l.terms l._visit first
      (record { situation = situation g.K.Keeper g.C.Clock g.D.Door l.fn.engine l.fn.clock l.fn.door; doorway = doorway g.D.Door l.fn.door })
      (record { situation = situation g.K.Keeper g.C.Clock g.D.Door l.engine l.clock l.door; doorway = doorway g.D.Door l.door });
  rests : IsAtRest l.fn.engine.held.models l.engine.held;
  keeper_count : g.K.Keeper.faults l.fn.engine.keeper.now ≤ g.K.Keeper.faults l.engine.keeper.now;
  next_count : g.D.Door.next_faults l.fn.door ≤ g.D.Door.next_faults l.door;
  other_rows : OthersStay l.fn.engine.held.models (g.K.Keeper.kept l.fn.engine.keeper.now) (g.K.Keeper.kept l.engine.keeper.now);
  lender : l.engine.keeper.ghost_name ≡ l.fn.engine.keeper.ghost_name;
}
