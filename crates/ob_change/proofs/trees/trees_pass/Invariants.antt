use Rattle.std.proofs.Common.{take}
use Rattle.ob_change.specs.Changing.{models_of, sides_of}
use Rattle.ob_change.proofs.TreeEdits.{StandAll}
use Rattle.ob_change.proofs.trees.trees_pass.Given as goal

-- the rows so far stand as they must
abbrev pub invariant-loop-cell : goal.invariant-loop-cell
invariant-loop-cell l = StandAll (models_of l.change) (sides_of l.change) (take l.cell-index l.cells)
