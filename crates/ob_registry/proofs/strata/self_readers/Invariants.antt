use Rattle.ob_definition.specs.Findings.{Adds}
use Rattle.ob_registry.specs.Graphs.{IsSelfWrong}
use Rattle.ob_registry.proofs.StepFaults.{AreNodeFaults}
use Rattle.ob_registry.proofs.strata.self_readers.Given as goal

abbrev pub invariant-loop-node : goal.invariant-loop-node
invariant-loop-node l = Adds (AreNodeFaults l.models (IsSelfWrong l.models) l.node) l.initial.first l.first
