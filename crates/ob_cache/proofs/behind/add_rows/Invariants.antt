use Rattle.std.proofs.Common.{take}
use Rattle.std.specs.Prelude.{Contains}
use Rattle.ob_base.specs.declared.id.Cell.{Cell}
use Rattle.ob_base.specs.declared.id.RowKey.{RowKey}
use Rattle.ob_schema.specs.Tables.{key_of}
use Rattle.ob_cache.proofs.behind.add_rows.Given as goal

-- the rows are listed, and those of the cells so far
abbrev pub invariant-loop-cell : goal.invariant-loop-cell
invariant-loop-cell l = record {
  kept : (key : RowKey) → Contains l.fn.listed.items key → Contains l.listed.items key;
  touched : (key : RowKey) → Contains l.fn.touched key → Contains l.listed.items key;
  done : (cell : Cell) → Contains (take l.cell-index l.marked) cell → Contains l.listed.items (key_of cell.model cell.id);
}
