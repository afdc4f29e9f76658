use Rattle.std.specs.Prelude.{All}
use Rattle.ob_effect.specs.Effect.{IsFitChange}
use Rattle.ob_effect.proofs.rows.push_values.Given as goal

-- the edits so far may be asked for
abbrev pub invariant-loop-one : goal.invariant-loop-one
invariant-loop-one l = All (IsFitChange l.writer.schema.now) l.fn.edits.items → All (IsFitChange l.writer.schema.now) l.edits.items
