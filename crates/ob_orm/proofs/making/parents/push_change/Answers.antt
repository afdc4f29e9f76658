use Rattle.std.proofs.Common.{sym}
use Rattle.ob_orm.specs.NewRows.{row_edits}
use Rattle.ob_orm.proofs.ParentFields.{linked-low, sets-fit, sets-pushed}
use Rattle.ob_orm.proofs.making.parents.push_change.Goals as goal

pub returns-clause-fit : goal.returns-clause-fit
returns-clause-fit c =
    let models = c.args.maker.now.schema.now in
    let to = c.args.parent.model in
    let id = c.in-Some.id in
    let low = linked-low models c.args.model c.args.given.now c.args.parent.link id c.requires.typed (sym c.in-Some.ensures) in
    let values = c.in_ok-changed.changed in
    sets-pushed c.push_row_edits.result models c.args.edits.now.items (row_edits to values id.0) c.push_row_edits.new.edits.items (sets-fit models to values id c.in_ok-changed.ensures.fit low) (rw c.as_slice-2.ensures at c.push_row_edits.ensures)
