use Rattle.std.proofs.Common.{refl}
use Rattle.ob_schema.specs.Fields.{IsGivable}
use Rattle.ob_effect.proofs.GivenValues.{field_there, item_of}
use Rattle.ob_effect.proofs.NotesKept.{notes_then}
use Rattle.ob_effect.proofs.Questions.{asks_then}
use Rattle.ob_effect.specs.Objects.{IsTypedValue}
use Rattle.ob_effect.proofs.rows.note_changes.Goals as goal

pub note_change-requires-clause-field : goal.note_change-requires-clause-field
note_change-requires-clause-field g c =
    let models = c.args.schema.now in
    let one = c.one-item.result in
    let given = c.args.given.now in
    let own = item_of (IsTypedValue models c.args.row.model) given given refl c.requires.given c.loop-one.one-index one c.loop-one-test.true c.one-item.is in
    field_there models c.args.row.model one.0 (λ info. IsGivable info one.1) own

pub returns-in_err-note_change-clause-asked : goal.returns-in_err-note_change-clause-asked
returns-in_err-note_change-clause-asked g c =
    asks_then g.K.Keeper c.args.engine.now c.loop-one.engine c.note_change.new.engine c.loop-one.invariant.asked c.note_change.ensures.asked

pub loop-one-preserved : goal.loop-one-preserved
loop-one-preserved g c = record {
  noted = notes_then c.args.schema.now c.args.notes.now c.loop-one.notes c.note_change.new.notes c.loop-one.invariant.noted c.in_ok-note_change.ensures.noted;
  asked = asks_then g.K.Keeper c.args.engine.now c.loop-one.engine c.note_change.new.engine c.loop-one.invariant.asked c.note_change.ensures.asked;
}
