-- The edit of a cell, where its row stays.
use Rattle.std.proofs.Common.{◌≡◌, false, subst, sym, ◌∙◌}
use Rattle.ob_unlink.proofs.LeftEdits.{pushed, pushed-fit}
use Rattle.ob_unlink.specs.Deletion.{row_of_cell}
use Rattle.ob_rows.specs.RowSets.{has_key}
use Rattle.ob_unlink.proofs.unlinking.leaving.push_left.Goals as goal
use Rattle.ob_schema.specs.Models.{IsRegistry}

pub returns-clause-told : goal.returns-clause-told
returns-clause-told g c = λ tables rests there.
    let models = c.args.engine.now.held.models in
    let registry = subst IsRegistry c.schema-schema.ensures c.parts_fit_together.ensures in
    let stays : has_key c.args.rows.now (row_of_cell c.args.cell) ≡ false = rw c.row_of.ensures at (sym c.contains.ensures ∙ c.if-contains.false) in
    pushed models tables registry (has_key c.args.rows.now) c.args.cell c.requires.field stays c.schema-schema.result.now c.schema-schema.ensures c.args.edits.now.items c.push_edit.new.edits.items c.in_ok-value.field-0
    c.in-Some.value c.in_ok-push_edit.ensures (c.in_ok-value.ensures.told tables rests) c.in-Some.is there

pub returns-clause-fit : goal.returns-clause-fit
returns-clause-fit g c =
    pushed-fit c.args.engine.now.held.models (has_key c.args.rows.now) c.args.cell c.requires.field c.schema-schema.result.now c.schema-schema.ensures c.args.edits.now.items c.push_edit.new.edits.items
    c.in_ok-value.field-0 c.in-Some.value c.in_ok-push_edit.ensures c.in_ok-value.ensures.typed c.in-Some.is
