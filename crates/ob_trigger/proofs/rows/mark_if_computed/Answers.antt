-- One cell that a formula computes.
use Rattle.std.proofs.Common.{sym, ◌∙◌}
use Rattle.ob_trigger.proofs.Marking.{marked-one}
use Rattle.ob_trigger.proofs.RowCells.{computed-one}
use Rattle.ob_trigger.proofs.rows.mark_if_computed.Goals as goal

pub returns : goal.returns
returns c = computed-one c.args.schema.now c.args.marked.now c.insert.new.self c.args.cell (sym c.is_computed.ensures ∙ c.if-not-is_computed.false)
    (marked-one c.args.marked.now c.insert.new.self c.args.cell c.in_ok-insert.ensures.updates.0)
