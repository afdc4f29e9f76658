-- The terms behind are as many as are wanted, where the whole is so.
use Rattle.std.proofs.Common.{◌≡◌, ◌+◌, ◌≤◌, drop, map}
use Rattle.ob_domain.proofs.Counts.{are_enough}
use Rattle.ob_domain.specs.Reading.{are_whole}
use Rattle.ob_domain.specs.Trees.{item_of}
use Rattle.ob_domain.proofs.reading.are_whole.Given as goal

abbrev pub invariant-loop-term : goal.invariant-loop-term
invariant-loop-term l = (are_whole (map item_of l.terms) ≡ are_enough l.wanted (map item_of (drop l.term-index l.terms))) × (l.wanted ≤ l.term-index + 1)
