use Rattle.std.proofs.Common.{◌≡◌, take}
use Rattle.std.specs.List.{filter}
use Rattle.wh_quant.specs.Indexed.{stays_beside}
use Rattle.wh_quant.proofs.moving.left_after.Given as goal

abbrev pub invariant-loop-quant : goal.invariant-loop-quant
invariant-loop-quant l = l.left ≡ filter (stays_beside l.touched) (take l.quant-index l.quants)
