-- The ids so far and those that are left are all.
use Rattle.std.proofs.Common.{◌≡◌, ◌++◌}
use Rattle.ob_install.proofs.BroughtIds.{numbers}
use Rattle.ob_install.proofs.installing.bringing.listed.Given as goal

abbrev pub invariant-loop-id : goal.invariant-loop-id
invariant-loop-id l = numbers l.list ++ l.id-iterator ≡ l.fn.found.keys
