use Rattle.ob_effect.proofs.FieldLaws.{leads_to_model}
use Rattle.ob_effect.proofs.NotesKept.{notes_named}
use Rattle.ob_effect.proofs.notes.note_named.Goals as goal

pub returns-clause-noted : goal.returns-clause-noted
returns-clause-noted c =
    let models = c.args.schema.now in
    let cell = c.args.cell in
    let target = leads_to_model models c.parts_fit_together.ensures cell.model cell.field c.info.result.now c.info.ensures c.in-Some.model c.in-Some.is in
    notes_named models c.args.notes.now c.push.new.self (record { cell = cell; target = record { model = c.in-Some.model; id = c.args.id } }) c.in_ok-push.ensures.items c.requires.field target
