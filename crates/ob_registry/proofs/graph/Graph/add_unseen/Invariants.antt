use Rattle.std.proofs.Common.{take}
use Rattle.std.specs.Prelude.{Contains}
use Rattle.ob_registry.proofs.Seen.{IsSeen}
use Rattle.ob_registry.proofs.graph.Graph.add_unseen.Given as goal

abbrev pub invariant-loop-read : goal.invariant-loop-read
invariant-loop-read l = IsSeen (Contains (take l.read-index l.read-items)) l.fn.is_seen.items l.fn.waiting.items l.is_seen.items l.waiting.items
