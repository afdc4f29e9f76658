-- the bytes so far are of the shape
use Rattle.std.proofs.Common.{◌≡◌, ℕ, ◌<◌, get_or}
use Rattle.ob_dates.proofs.Places.{zeroed}
use Rattle.ob_dates.proofs.text.has_shape.Given as goal

abbrev pub invariant-loop-at : goal.invariant-loop-at
invariant-loop-at l = (k : ℕ) → k < l.at → zeroed (get_or l.text k 0) ≡ get_or l.shape k 0
