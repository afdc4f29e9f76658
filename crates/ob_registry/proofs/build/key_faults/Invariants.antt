use Rattle.ob_definition.specs.Findings.{Adds}
use Rattle.ob_registry.proofs.KeyRooms.{AreFaultsBelow}
use Rattle.ob_registry.proofs.build.key_faults.Given as goal

abbrev pub invariant-loop-place : goal.invariant-loop-place
invariant-loop-place l = Adds (AreFaultsBelow l.models l.place) l.initial.first l.first
