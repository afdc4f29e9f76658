-- The row of an id, or none.
use Rattle.std.proofs.Common.{sym, ◌∙◌}
use Rattle.ob_trigger.proofs.RowCells.{beside-not, beside-row}
use Rattle.ob_trigger.proofs.rows.mark_row_of.Goals as goal

pub returns-then-not-is_id : goal.returns-then-not-is_id
returns-then-not-is_id c = beside-not c.args.schema.now c.args.marked.now c.args.own (sym c.is_id.ensures ∙ c.if-not-is_id.true)

pub returns : goal.returns
returns c = beside-row c.args.schema.now c.args.marked.now c.mark_row.new.marked c.args.own (sym c.is_id.ensures ∙ c.if-not-is_id.false) c.in_ok-mark_row.ensures
