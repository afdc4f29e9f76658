use Rattle.std.proofs.Common.{◌≡◌, ◌+◌, ◌-◌, ◌≤◌}
use Rattle.ob_base.specs.Limits.{max_input_bytes}
use Rattle.ob_cache.specs.Kept.{OthersStay}
use Rattle.ob_cache.specs.Standing.{IsAtRest, RestsAt}
use Rattle.ob_schema.specs.Tables.{Tables}
use Rattle.ob_server.specs.Outside.{engaged, surroundings}
use Rattle.ob_server.specs.SessionSteps.{GoesOn}
use Rattle.ob_server.proofs.session.serve_lines.Given as goal

abbrev pub invariant-lines : goal.invariant-lines
invariant-lines g l = record {
  session : (first : Tables) → RestsAt (g.K.Keeper.kept l.fn.engine.keeper.now) l.fn.engine.held first
      → GoesOn l.terms (record { left = g.S.Source.left l.fn.input; now = surroundings g.K.Keeper g.W.Sink g.C.Clock l.fn.engine.keeper.now l.fn.output l.fn.clock; first = first })
      l.reader (g.S.Source.left l.input) (engaged g.K.Keeper g.W.Sink g.C.Clock l.engine l.output l.clock);
  rests : IsAtRest l.fn.engine.held.models l.engine.held;
  input_count : g.S.Source.faults l.fn.input ≤ g.S.Source.faults l.input;
  output_count : g.W.Sink.faults l.fn.output ≤ g.W.Sink.faults l.output;
  keeper_count : g.K.Keeper.faults l.fn.engine.keeper.now ≤ g.K.Keeper.faults l.engine.keeper.now;
  others : OthersStay l.fn.engine.held.models (g.K.Keeper.kept l.fn.engine.keeper.now) (g.K.Keeper.kept l.engine.keeper.now);
  lender : l.engine.keeper.ghost_name ≡ l.fn.engine.keeper.ghost_name;
}

abbrev pub decreases-lines : goal.decreases-lines
decreases-lines g l = max_input_bytes + 1 - l.reader.consumed
