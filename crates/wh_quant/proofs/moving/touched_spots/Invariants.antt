use Rattle.std.proofs.Common.{take}
use Rattle.wh_quant.specs.Indexed.{AreTouched}
use Rattle.wh_quant.proofs.moving.touched_spots.Given as goal

abbrev pub invariant-loop-line : goal.invariant-loop-line
invariant-loop-line l = AreTouched l.spots (take l.line-index l.lines)
