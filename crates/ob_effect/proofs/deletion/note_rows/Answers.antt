-- One row more.
use Rattle.ob_effect.proofs.NotesKept.{notes_then}
use Rattle.ob_effect.proofs.deletion.note_rows.Goals as goal

pub loop-row-preserved : goal.loop-row-preserved
loop-row-preserved c = notes_then c.args.schema.now c.args.notes.now c.loop-row.notes c.note_gone.new.notes c.loop-row.invariant c.in_ok-note_gone.ensures.noted
