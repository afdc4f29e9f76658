use Rattle.std.proofs.Common.{◌≡◌, take}
use Rattle.ob_codec.specs.Steps.{place_of}
use Rattle.ob_codec.proofs.place.place_of.Given as goal

abbrev pub invariant-loop-number : goal.invariant-loop-number
invariant-loop-number l = l.place ≡ place_of (take l.number-index l.numbers)
