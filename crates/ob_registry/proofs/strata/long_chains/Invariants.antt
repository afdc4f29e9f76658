use Rattle.ob_definition.specs.Findings.{Adds}
use Rattle.ob_registry.specs.Graphs.{IsLongWrong}
use Rattle.ob_registry.proofs.StepFaults.{AreNodeFaults}
use Rattle.ob_registry.proofs.strata.long_chains.Given as goal

abbrev pub invariant-loop-node : goal.invariant-loop-node
invariant-loop-node l = Adds (AreNodeFaults l.models (IsLongWrong l.models) l.node) l.initial.first l.first
