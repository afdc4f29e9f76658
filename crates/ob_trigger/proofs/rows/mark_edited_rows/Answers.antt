-- One cell more.
use Rattle.std.proofs.Common.{◌⊎◌, ◌↔◌, List, subst}
use Rattle.std.proofs.lemmas.List.{take_all}
use Rattle.ob_base.specs.declared.id.Cell.{Cell}
use Rattle.ob_trigger.specs.Marks.{IsInEditedRow, HasMark}
use Rattle.ob_trigger.proofs.RowCells.{edited-more, edited-start}
use Rattle.ob_trigger.proofs.rows.mark_edited_rows.Goals as goal

pub loop-cell-init : goal.loop-cell-init
loop-cell-init c = edited-start c.args.schema.now c.args.marked.now

pub loop-cell-preserved : goal.loop-cell-preserved
loop-cell-preserved c = edited-more c.args.schema.now c.args.edited.now c.loop-cell.cell-index _ c.args.marked.now c.loop-cell.marked c.mark_row_of.new.marked c.loop-cell-test.true c.in_ok-mark_row_of.ensures c.loop-cell.invariant

pub returns : goal.returns
returns c = λ cell. subst (λ (l : List Cell). HasMark c.loop-cell.marked cell ↔ (HasMark c.args.marked.now cell ⊎ IsInEditedRow c.args.schema.now l cell))
    (take_all c.loop-cell.cell-index c.args.edited.now c.loop-cell-test.false) (c.loop-cell.invariant cell)
