use Rattle.std.proofs.Common.{◌≡◌, ◌≤◌, ◌+◌, ◌*◌, take}
use Rattle.wh_quant.specs.Indexed.{holdings_of, IsIndexed}
use Rattle.wh_quant.specs.Moves.{holdings_after, AllMove}
use Rattle.wh_quant.proofs.moving.move_lines.Given as goal

abbrev pub invariant-loop-number : goal.invariant-loop-number
invariant-loop-number l = record {
  indexed : IsIndexed l.stock;
  is : holdings_of l.stock ≡ holdings_after l.now (holdings_of l.initial.stock) (take l.number l.lines);
  each : AllMove l.now (holdings_of l.initial.stock) l.lines l.number;
  next : l.stock.next ≤ l.initial.stock.next + 2 * l.number;
}
