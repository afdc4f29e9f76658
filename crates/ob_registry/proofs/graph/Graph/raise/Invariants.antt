use Rattle.std.proofs.Common.{◌-◌}
use Rattle.ob_registry.proofs.Heights.{IsRaisedUpto}
use Rattle.ob_registry.proofs.graph.Graph.raise.Given as goal

abbrev pub invariant-loop-node : goal.invariant-loop-node
invariant-loop-node l = IsRaisedUpto l.self.reads.items (l.height - 1) l.node l.heights.items
