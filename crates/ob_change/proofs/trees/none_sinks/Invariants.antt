use Rattle.std.proofs.Common.{◌≡◌, ◌+◌, ℕ}
use Rattle.ob_change.proofs.TreeLevels.{IsLevel}
use Rattle.ob_change.proofs.trees.none_sinks.Given as goal

-- the level of this depth
abbrev pub invariant-loop-below : goal.invariant-loop-below
invariant-loop-below l = (n : ℕ) × (n + l.fn.depth ≡ l._below) × IsLevel l.tables.models l.tables.tables l.cell.model l.cell.field l.cell.id n l.level.items
