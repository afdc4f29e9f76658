-- The sizes that were passed are summed up.
use Rattle.std.proofs.Common.{◌≡◌, take}
use Rattle.std.specs.List.{sum}
use Rattle.ob_io.proofs.memory_door.size_before.Given as goal

abbrev pub invariant-loop-size : goal.invariant-loop-size
invariant-loop-size l = l.start ≡ sum (take l.size-index l.fn.sizes)
