-- Cells in their order, each once.
use Rattle.std.specs.Prelude.{List}
use Rattle.std.specs.List.Sorted.{IsStrictlySortedBy}
use Rattle.ob_base.specs.BrokenOrder.{cell_order}
use Rattle.ob_base.specs.declared.id.Cell.{Cell}

-- each cell is above those before it, by model, then id, then field
abbrev pub CellsRise : List Cell → Type 0
CellsRise cells = IsStrictlySortedBy cell_order cells
