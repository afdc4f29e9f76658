use Rattle.std.proofs.Common.{sym, subst}
use Rattle.ob_base.specs.declared.id.Cell.{Cell}
use Rattle.ob_schema.specs.Models.{HasField}
use Rattle.ob_effect.proofs.NotesKept.{notes_none}
use Rattle.ob_effect.proofs.rows.note_change.Goals as goal
use Rattle.ob_effect.proofs.rows.note_change.Goals.{then-is_other, else-is_other}

pub returns-clause-noted : goal.returns-clause-noted
returns-clause-noted g c =
    let models = c.args.schema.now in
    elim c.if-is_other.branch [
      | then-is_other w ↦ rw w.notes-is (w.breaks.ensures models (subst (λ (cell : Cell). HasField models cell.model cell.field) (sym c.cell_of-cell.ensures) c.requires.field))
      | else-is_other w ↦ rw w.notes-is (notes_none models c.args.notes.now)
    ]
