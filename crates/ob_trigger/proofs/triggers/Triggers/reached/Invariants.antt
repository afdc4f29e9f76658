-- A search for all that leads to an edited cell.
use Rattle.std.proofs.Common.{◌+◌, ◌-◌, ◌*◌, ◌^◌, length}
use Rattle.ob_base.specs.declared.id.Cell.{Cell}
use Rattle.ob_schema.specs.Facts.{OfAllTold}
use Rattle.ob_trigger.specs.Affected.{HasComputedField}
use Rattle.ob_trigger.specs.Asking.{AskedAlone}
use Rattle.ob_trigger.specs.Marks.{HasMark}
use Rattle.ob_trigger.proofs.Searching.{IsSearch}
use Rattle.ob_trigger.proofs.triggers.Triggers.reached.Given as goal

abbrev pub invariant-loop-cell : goal.invariant-loop-cell
invariant-loop-cell g l = record {
  told : OfAllTold (g.W.Links.tells l.fn.worlds) (λ sides. IsSearch l.self sides l.edited l.marked l.waiting.items);
  computed : (cell : Cell) → HasMark l.marked cell → HasComputedField l.self cell;
  stays : AskedAlone g.W.Links.asks g.W.Links.registry g.W.Links.tells l.fn.worlds l.worlds;
}

abbrev pub decreases-loop-cell : goal.decreases-loop-cell
decreases-loop-cell g l = 2 * (2 ^ 63 - length l.marked.keys) + length l.waiting.items
