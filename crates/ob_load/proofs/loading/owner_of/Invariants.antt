-- The entry is so many behind in the modules that are left.
use Rattle.ob_module.specs.Rooms.{modules_in}
use Rattle.ob_load.proofs.Owners.{IsLeft}
use Rattle.ob_load.proofs.loading.owner_of.Given as goal

abbrev pub invariant-loop-number : goal.invariant-loop-number
invariant-loop-number l = IsLeft (modules_in l.modules) l.taken l.entry l.number-index l.left
