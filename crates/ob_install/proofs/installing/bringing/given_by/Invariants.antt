-- What the values so far give.
use Rattle.std.proofs.Common.{◌≡◌, take}
use Rattle.ob_install.proofs.BroughtIds.{numbers}
use Rattle.ob_install.proofs.installing.bringing.given_by.Given as goal
use Rattle.ob_install.specs.Install.{given_by}

abbrev pub invariant-loop-one : goal.invariant-loop-one
invariant-loop-one l = l.given.items ≡ given_by (numbers l.ids) (take l.one-index l.values)
