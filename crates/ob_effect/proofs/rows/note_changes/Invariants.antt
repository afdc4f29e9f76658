use Rattle.ob_effect.specs.Effect.{Asks, KeepsNotes}
use Rattle.ob_effect.proofs.rows.note_changes.Given as goal

-- the fields so far are noted, and the engine was only asked
abbrev pub invariant-loop-one : goal.invariant-loop-one
invariant-loop-one g l = record {
  noted : KeepsNotes l.schema l.fn.notes l.notes;
  asked : Asks g.K.Keeper l.fn.engine l.engine;
}
