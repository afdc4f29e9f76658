-- Those that were met are listed, and those listed are the cells so far.
use Rattle.std.proofs.Common.{take}
use Rattle.ob_change.proofs.MetCells.{AreListed, AreSame}
use Rattle.ob_change.proofs.once.once_each.Given as goal

abbrev pub invariant-loop-cell : goal.invariant-loop-cell
invariant-loop-cell l = AreListed l.met l.once.items × AreSame l.once.items (take l.cell-index l.cells)
