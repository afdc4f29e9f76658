-- The ids so far and those that are left are all.
use Rattle.std.proofs.Common.{◌≡◌, ◌++◌}
use Rattle.ob_access.proofs.groups.listed.Given as goal

abbrev pub invariant-loop-id : goal.invariant-loop-id
invariant-loop-id l = l.ids ++ l.id-iterator ≡ l.fn.found.keys
