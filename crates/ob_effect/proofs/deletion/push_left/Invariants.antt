-- The edits so far may be asked for, by an engine that was asked alone.
use Rattle.std.specs.Prelude.{All}
use Rattle.ob_effect.specs.Effect.{Asks, IsFitChange}
use Rattle.ob_effect.proofs.deletion.push_left.Given as goal

abbrev pub invariant-loop-cell : goal.invariant-loop-cell
invariant-loop-cell g l = record {
  fit : All (IsFitChange l.fn.engine.held.models) l.fn.edits.items → All (IsFitChange l.fn.engine.held.models) l.edits.items;
  asks : Asks g.K.Keeper l.fn.engine l.engine;
}
