use Rattle.std.proofs.Common.{◌≡◌, ◌++◌}
use Rattle.ob_registry.specs.Graphs.{steps_upto}
use Rattle.ob_registry.proofs.graph.Graph.add_nodes.Given as goal

abbrev pub invariant-loop-place : goal.invariant-loop-place
invariant-loop-place l = record {
  steps : l.self.steps.items ≡ l.fn.self.steps.items ++ steps_upto l.model.0 l.place;
  starts : l.self.starts ≡ l.fn.self.starts;
  reads : l.self.reads ≡ l.fn.self.reads;
}
