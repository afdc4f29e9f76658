-- The edits so far may be asked for.
use Rattle.std.specs.Prelude.{All}
use Rattle.ob_effect.specs.Effect.{IsFitChange}
use Rattle.ob_effect.proofs.deletion.push_gone.Given as goal

abbrev pub invariant-loop-row : goal.invariant-loop-row
invariant-loop-row l = All (IsFitChange l.schema) l.fn.edits.items → All (IsFitChange l.schema) l.edits.items
