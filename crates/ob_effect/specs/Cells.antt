-- Rows and their cells.
use Rattle.ob_base.specs.declared.id.Cell.{Cell}
use Rattle.ob_base.specs.declared.id.FieldNo.{FieldNo}
use Rattle.ob_base.specs.declared.id.RowKey.{RowKey}

-- the cell of a field of a row
abbrev pub cell_at : RowKey → FieldNo → Cell
cell_at row field = record { model = row.model; id = row.id; field = field }

-- the row of a cell
abbrev pub row_at_cell : Cell → RowKey
row_at_cell cell = record { model = cell.model; id = cell.id }
