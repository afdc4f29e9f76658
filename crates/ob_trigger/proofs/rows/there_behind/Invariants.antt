-- Those of the cells so far whose rows are there.
use Rattle.std.proofs.Common.{take}
use Rattle.std.specs.Prelude.{Contains}
use Rattle.ob_base.specs.declared.id.Cell.{Cell}
use Rattle.ob_schema.specs.Facts.{OfAllTold}
use Rattle.ob_trigger.specs.Asking.{AskedAlone}
use Rattle.ob_trigger.specs.Marks.{HasMark}
use Rattle.ob_trigger.proofs.RowCells.{AreThere}
use Rattle.ob_trigger.proofs.rows.there_behind.Given as goal

abbrev pub invariant-loop-cell : goal.invariant-loop-cell
invariant-loop-cell g l = record {
  told : OfAllTold (g.W.Links.tells l.fn.worlds) (λ sides. AreThere sides.behind (take l.cell-index l.cells) l.there);
  among : (cell : Cell) → HasMark l.there cell → Contains (take l.cell-index l.cells) cell;
  stays : AskedAlone g.W.Links.asks g.W.Links.registry g.W.Links.tells l.fn.worlds l.worlds;
}
