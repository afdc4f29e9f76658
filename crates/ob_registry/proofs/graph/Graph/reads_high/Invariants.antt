use Rattle.std.proofs.Common.{ℕ, ◌+◌, ◌<◌, get_or}
use Rattle.ob_registry.proofs.graph.Graph.reads_high.Given as goal

abbrev pub invariant-loop-read : goal.invariant-loop-read
invariant-loop-read l = (k : ℕ) → k < l.read-index → get_or l.heights (get_or l.read-items k 0) 0 + 1 < l.height
