use Rattle.std.proofs.Common.{◌≡◌}
use Rattle.ob_registry.proofs.GraphReads.{IsReadUpto}
use Rattle.ob_registry.proofs.graph.Graph.add_reads.Given as goal

abbrev pub invariant-loop-node : goal.invariant-loop-node
invariant-loop-node l = record {
  steps : l.self.steps ≡ l.fn.self.steps;
  starts : l.self.starts ≡ l.fn.self.starts;
  upto : IsReadUpto l.models l.fn.self.steps.items l.node l.self.reads.items;
}
