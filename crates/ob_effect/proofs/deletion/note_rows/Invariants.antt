-- The rows so far are noted.
use Rattle.ob_effect.specs.Effect.{KeepsNotes}
use Rattle.ob_effect.proofs.deletion.note_rows.Given as goal

abbrev pub invariant-loop-row : goal.invariant-loop-row
invariant-loop-row l = KeepsNotes l.schema l.fn.notes l.notes
