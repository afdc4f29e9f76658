use Rattle.ob_definition.specs.Findings.{Adds}
use Rattle.ob_schema.specs.Chains.{Reaches}
use Rattle.ob_registry.specs.Graphs.{IsCycleWrong, NodeReads}
use Rattle.ob_registry.proofs.CircleMarks.{AreMarked}
use Rattle.ob_registry.proofs.StepFaults.{AreNodeFaults}
use Rattle.ob_registry.proofs.strata.circles.Given as goal

abbrev pub invariant-loop-node : goal.invariant-loop-node
invariant-loop-node l = record {
  marked : AreMarked (λ a. Reaches (NodeReads l.graph.reads.items) a a) l.node l.marks.items;
  faults : Adds (AreNodeFaults l.models (IsCycleWrong l.models) l.node) l.initial.first l.first;
}
