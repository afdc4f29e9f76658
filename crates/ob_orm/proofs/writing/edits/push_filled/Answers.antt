use Rattle.ob_orm.specs.NewRows.{row_edits}
use Rattle.ob_orm.proofs.WriteEdits.{row_fit, row_pushed}
use Rattle.ob_orm.proofs.writing.edits.push_filled.Goals as goal

pub returns-clause-fit : goal.returns-clause-fit
returns-clause-fit c =
    let models = c.args.maker.now.schema.now in
    let values = c.in_ok-changed.changed in
    row_pushed c.push_row_edits.result models c.args.edits.now.items (row_edits c.args.model values c.args.id.0) c.push_row_edits.new.edits.items
    (row_fit models c.args.model values c.args.id c.in_ok-changed.ensures.fit c.requires.low) (rw c.as_slice.ensures at c.push_row_edits.ensures)
