-- None of the modules that were passed depends on itself.
use Rattle.ob_module.specs.Rooms.{modules_in}
use Rattle.ob_load.proofs.Circles.{NoneBefore}
use Rattle.ob_load.proofs.dependencies.first_cyclic.Given as goal

abbrev pub invariant-loop-number : goal.invariant-loop-number
invariant-loop-number l = NoneBefore (modules_in l.modules) l.number
