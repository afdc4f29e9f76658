use Rattle.ob_effect.proofs.NotesKept.{notes_gone, notes_then}
use Rattle.ob_effect.proofs.notes.note_gone.Goals as goal

pub returns-clause-noted : goal.returns-clause-noted
returns-clause-noted c =
    let models = c.args.schema.now in
    let mid = c.note_lasting.new.notes in
    notes_then models c.args.notes.now mid (record mid { gone = c.push.new.self }) c.note_lasting.ensures.noted (notes_gone models mid c.push.new.self c.args.row c.in_ok-push.ensures.items c.requires.model)
