-- What is reached, and at how many of it was looked.
use Rattle.ob_module.specs.Rooms.{modules_in}
use Rattle.ob_load.proofs.Reached.{AreReached}
use Rattle.ob_load.proofs.dependencies.is_cyclic.Given as goal

abbrev pub invariant-loop-place : goal.invariant-loop-place
invariant-loop-place l = AreReached (modules_in l.modules) l.number l.reached.items l.place
