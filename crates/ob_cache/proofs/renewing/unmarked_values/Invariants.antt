use Rattle.std.proofs.Common.{take}
use Rattle.ob_cache.specs.Behind.{AreUnmarked}
use Rattle.ob_change.specs.Changing.{models_of, sides_of}
use Rattle.ob_cache.proofs.renewing.unmarked_values.Given as goal

-- the marked cells so far are taken out
abbrev pub invariant-loop-cell : goal.invariant-loop-cell
invariant-loop-cell l = AreUnmarked (models_of l.fn.change) (sides_of l.fn.change) (take l.cell-index l.marked) l.values
