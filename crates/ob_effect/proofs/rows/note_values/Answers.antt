use Rattle.std.proofs.Common.{refl, sym, subst}
use Rattle.ob_base.specs.declared.id.Cell.{Cell}
use Rattle.ob_schema.specs.Fields.{IsGivable}
use Rattle.ob_schema.specs.Models.{HasField}
use Rattle.ob_effect.proofs.GivenValues.{field_there, item_of}
use Rattle.ob_effect.proofs.NotesKept.{notes_then}
use Rattle.ob_effect.specs.Objects.{IsTypedValue}
use Rattle.ob_effect.proofs.rows.note_values.Goals as goal
use Rattle.ob_effect.proofs.rows.note_values.Goals.{in-Ref+in_ok-note_named, in_default}

pub note_given-requires : goal.note_given-requires
note_given-requires c =
    let models = c.args.schema.now in
    let one = c.one-item.result in
    let given = c.args.given.now in
    let own = item_of (IsTypedValue models c.args.row.model) given given refl c.requires.given c.loop-one.one-index one c.loop-one-test.true c.one-item.is in
    record { field = subst (λ (cell : Cell). HasField models cell.model cell.field) (sym c.cell_of-cell.ensures) (field_there models c.args.row.model one.0 (λ info. IsGivable info one.1) own) }

pub note_named-requires : goal.note_named-requires
note_named-requires c =
    let models = c.args.schema.now in
    let one = c.one-item.result in
    let given = c.args.given.now in
    let own = item_of (IsTypedValue models c.args.row.model) given given refl c.requires.given c.loop-one.one-index one c.loop-one-test.true c.one-item.is in
    record { field = subst (λ (cell : Cell). HasField models cell.model cell.field) (sym c.cell_of-cell.ensures) (field_there models c.args.row.model one.0 (λ info. IsGivable info one.1) own) }

pub loop-one-preserved : goal.loop-one-preserved
loop-one-preserved c =
    let models = c.args.schema.now in
    let far = notes_then models c.args.notes.now c.loop-one.notes c.note_given.new.notes c.loop-one.invariant c.note_given.ensures.noted in
    elim c.match-one.branch [
      | in-Ref+in_ok-note_named w ↦ rw w.notes-is (notes_then models c.args.notes.now c.note_given.new.notes w.note_named.new.notes far w.in_ok-note_named.ensures.noted)
      | in_default w ↦ rw w.notes-is far
    ]
