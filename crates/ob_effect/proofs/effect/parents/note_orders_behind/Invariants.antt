use Rattle.ob_effect.specs.Effect.{KeepsNotes}
use Rattle.ob_effect.proofs.effect.parents.note_orders_behind.Given as goal

-- what the commands so far give is noted
abbrev pub invariant-loop-one : goal.invariant-loop-one
invariant-loop-one l = KeepsNotes l.writer.schema.now l.fn.notes l.notes
