use Rattle.std.proofs.Common.{◌≡◌, []}
use Rattle.ob_registry.proofs.GraphNodes.{AreNodesUpto}
use Rattle.ob_registry.proofs.graph.Graph.new.Given as goal

abbrev pub invariant-loop-place : goal.invariant-loop-place
invariant-loop-place l = record {
  nodes : AreNodesUpto l.models l.place l.graph.steps.items l.graph.starts.items;
  none : l.graph.reads.items ≡ [];
}
