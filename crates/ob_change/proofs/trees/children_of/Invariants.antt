use Rattle.std.proofs.Common.{take}
use Rattle.ob_change.specs.TreeRows.{AreChildren}
use Rattle.ob_change.proofs.trees.children_of.Given as goal

-- those that name one of the rows so far
abbrev pub invariant-loop-row : goal.invariant-loop-row
invariant-loop-row l = AreChildren l.tables.models l.tables.tables l.model l.parent (take l.row-index l.rows) l.children.items
