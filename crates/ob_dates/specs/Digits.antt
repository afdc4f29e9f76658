-- Where the digits of a text stand.
use Rattle.std.specs.Prelude.{ℕ, ◌+◌, ◌<◌, ◌≤◌, List, length, slice_index}
use Rattle.std.specs.Int.{IsInRange}

-- so many digits stand in the text, from a place on
pub record HasDigits (text : List ℕ) (start len : ℕ) : Type 0 where
  pub within : start + len ≤ length text
  pub digits : (k : ℕ) → start ≤ k → k < start + len → IsInRange 48 57 (slice_index text k)

-- the text begins with digits in the places of a date's
pub record HasDate (text : List ℕ) : Type 0 where
  pub year : HasDigits text 0 4
  pub month : HasDigits text 5 2
  pub day : HasDigits text 8 2

-- the text has digits in the places of a time's, after its date
pub record HasTime (text : List ℕ) : Type 0 where
  pub hour : HasDigits text 11 2
  pub minute : HasDigits text 14 2
  pub second : HasDigits text 17 2
