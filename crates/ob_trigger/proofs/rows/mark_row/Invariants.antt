-- The computed cells of the first fields are marked.
use Rattle.std.proofs.Common.{◌⊎◌, ◌↔◌}
use Rattle.ob_base.specs.declared.id.Cell.{Cell}
use Rattle.ob_trigger.specs.Marks.{HasMark}
use Rattle.ob_trigger.proofs.RowCells.{InFirst}
use Rattle.ob_trigger.proofs.rows.mark_row.Given as goal

abbrev pub invariant-loop-place : goal.invariant-loop-place
invariant-loop-place l = (cell : Cell) → HasMark l.marked cell ↔ (HasMark l.fn.marked cell ⊎ InFirst l.schema l.model l.id l.place cell)
