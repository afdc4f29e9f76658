use Rattle.ob_effect.specs.Effect.{KeepsNotes}
use Rattle.ob_effect.proofs.rows.note_values.Given as goal

-- what the values so far give is noted
abbrev pub invariant-loop-one : goal.invariant-loop-one
invariant-loop-one l = KeepsNotes l.schema l.fn.notes l.notes
