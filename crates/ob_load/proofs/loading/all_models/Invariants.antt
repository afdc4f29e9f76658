-- The models of the modules that were passed.
use Rattle.ob_module.specs.Rooms.{modules_in}
use Rattle.ob_load.proofs.Owners.{AreSoFar}
use Rattle.ob_load.proofs.loading.all_models.Given as goal

abbrev pub invariant-loop-number : goal.invariant-loop-number
invariant-loop-number l = AreSoFar (modules_in l.modules) l.taken l.number-index l.models
