-- A row that is made, or another one.
use Rattle.std.proofs.Common.{sym, subst}
use Rattle.ob_effect.proofs.NotesKept.{notes_made, notes_touched}
use Rattle.ob_effect.specs.Effect.{IsNoted}
use Rattle.ob_effect.specs.declared.notes.Notes.{Notes}
use Rattle.ob_effect.proofs.notes.note_touch.Goals as goal
use Rattle.ob_effect.proofs.notes.note_touch.Goals.{in-Create+in_ok-push-in-Create, in_default+in_ok-insert-in_default}

pub returns-clause-noted : goal.returns-clause-noted
returns-clause-noted c = λ held noted.
    let models = c.args.schema.now in
    let mid = c.note_managed.new.notes in
    let so_far = c.note_managed.ensures.noted.noted held noted in
    elim c.match-op.branch [
      | in-Create+in_ok-push-in-Create w ↦ subst (λ (n : Notes). IsNoted models n held) (sym w.notes-is) (notes_made models mid w.push.new.self c.args.row w.in_ok-push-in-Create.ensures.items c.requires.model held so_far)
      | in_default+in_ok-insert-in_default w ↦ subst (λ (n : Notes). IsNoted models n held) (sym w.notes-is)
          ((notes_touched models mid w.insert.new.self _ (record { row = c.args.row; op = c.args.op }) w.in_ok-insert-in_default.ensures.keys c.requires.model).noted held so_far)
    ]
