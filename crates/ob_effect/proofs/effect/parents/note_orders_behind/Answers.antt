use Rattle.ob_effect.proofs.NotesKept.{notes_then}
use Rattle.ob_effect.proofs.effect.parents.note_orders_behind.Goals as goal

pub loop-one-preserved : goal.loop-one-preserved
loop-one-preserved c = notes_then c.args.writer.now.schema.now c.args.notes.now c.loop-one.notes c.note_behind.new.notes c.loop-one.invariant c.note_behind.ensures.noted
