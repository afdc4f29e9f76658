use Rattle.std.proofs.Common.{take}
use Rattle.ob_registry.proofs.GraphReads.{AreRead}
use Rattle.ob_registry.proofs.graph.Graph.reads_of.Given as goal

abbrev pub invariant-loop-path : goal.invariant-loop-path
invariant-loop-path l = AreRead l.models l.self.steps.items l.node (take l.path-index l.path-items) l.reads.items
