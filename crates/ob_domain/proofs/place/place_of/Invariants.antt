-- The steps so far are those of the numbers so far.
use Rattle.std.proofs.Common.{◌≡◌, take}
use Rattle.ob_domain.specs.Places.{place_of}
use Rattle.ob_domain.proofs.place.place_of.Given as goal

abbrev pub invariant-loop-number : goal.invariant-loop-number
invariant-loop-number l = l.place ≡ place_of (take l.number-index l.numbers)
