use Rattle.ob_change.specs.TreeRows.{IsUp}
use Rattle.ob_change.proofs.trees.depth_of.Given as goal

-- so many steps lead up to it
abbrev pub invariant-loop-above : goal.invariant-loop-above
invariant-loop-above l = IsUp l.tables.models l.tables.tables l.cell.model l.cell.field l.above l.initial.at l.at
