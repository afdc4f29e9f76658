-- What is found is right, and what isn't found yet is implied by a group that is pending.
use Rattle.std.proofs.Common.{◌+◌, length}
use Rattle.ob_access.specs.Finding.{unfound}
use Rattle.ob_access.proofs.Searching.{IsSearch}
use Rattle.ob_access.proofs.groups.found_from.Given as goal

abbrev pub invariant-loop-id : goal.invariant-loop-id
invariant-loop-id l = IsSearch l.groups l.stated l.found.keys l.pending.items

abbrev pub decreases-loop-id : goal.decreases-loop-id
decreases-loop-id l = unfound (length l.groups) l.found.keys + length l.pending.items
