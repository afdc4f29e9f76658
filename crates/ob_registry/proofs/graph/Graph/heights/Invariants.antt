use Rattle.std.proofs.Common.{◌-◌}
use Rattle.ob_registry.specs.Graphs.{AreHeights}
use Rattle.ob_registry.proofs.graph.Graph.heights.Given as goal

abbrev pub invariant-loop-height : goal.invariant-loop-height
invariant-loop-height l = AreHeights l.self.reads.items (l.height - 1) l.heights.items
