use Rattle.std.proofs.Common.{◌≡◌, ◌++◌, map, drop}
use Rattle.wh_quant.specs.Takes.{takes_from}
use Rattle.wh_quant.proofs.Sorting.{behind}
use Rattle.wh_quant.proofs.taking.given.Given as goal

abbrev pub invariant-loop-stock : goal.invariant-loop-stock
invariant-loop-stock l = takes_from l.fn.want (map behind l.candidates) ≡ l.taken ++ takes_from l.left (drop l.stock-index (map behind l.candidates))
