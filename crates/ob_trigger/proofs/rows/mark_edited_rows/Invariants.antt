-- The rows of the cells so far are marked.
use Rattle.std.proofs.Common.{◌⊎◌, ◌↔◌, take}
use Rattle.ob_base.specs.declared.id.Cell.{Cell}
use Rattle.ob_trigger.specs.Marks.{IsInEditedRow, HasMark}
use Rattle.ob_trigger.proofs.rows.mark_edited_rows.Given as goal

abbrev pub invariant-loop-cell : goal.invariant-loop-cell
invariant-loop-cell l = (cell : Cell) → HasMark l.marked cell ↔ (HasMark l.fn.marked cell ⊎ IsInEditedRow l.schema (take l.cell-index l.edited) cell)
