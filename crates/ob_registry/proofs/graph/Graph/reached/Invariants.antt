use Rattle.std.proofs.Common.{◌+◌, length, not}
use Rattle.std.specs.List.{count_by}
use Rattle.ob_registry.specs.Graphs.{NodeReads}
use Rattle.ob_registry.proofs.Searches.{IsSearch}
use Rattle.ob_registry.proofs.graph.Graph.reached.Given as goal

abbrev pub invariant-loop-next : goal.invariant-loop-next
invariant-loop-next l = IsSearch (NodeReads l.self.reads.items) (length l.self.reads.items) l.node l.is_seen.items l.waiting.items

abbrev pub decreases-loop-next : goal.decreases-loop-next
decreases-loop-next l = length l.waiting.items + count_by not l.is_seen.items
