use Rattle.std.proofs.Common.{◌≡◌, ◌++◌, map, length}
use Rattle.ob_group.specs.GroupParts.{group_of}
use Rattle.ob_group.proofs.told_groups.listed.Given as goal

-- the first groups are listed, and the others are left
abbrev pub invariant-loop-keys : goal.invariant-loop-keys
invariant-loop-keys l = l.list.items ++ map group_of l.groups.entries ≡ map group_of l.fn.groups.entries

abbrev pub decreases-loop-keys : goal.decreases-loop-keys
decreases-loop-keys l = length l.groups.entries
