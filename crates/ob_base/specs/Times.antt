-- Days and moments of the years 0001 to 9999, counted from 1970-01-01 00:00:00 UTC.
use Rattle.std.specs.Prelude.{ℤ, pos, negsuc, ◌≤ℤ◌, int_le, ◌&&◌, Bool}

-- 0001-01-01 and 9999-12-31
abbrev pub min_day : ℤ
min_day = negsuc 719161

abbrev pub max_day : ℤ
max_day = pos 2932896

-- the first and the last second of these days
abbrev pub min_moment : ℤ
min_moment = negsuc 62135596799

abbrev pub max_moment : ℤ
max_moment = pos 253402300799

-- a day of these years
pub record IsDay (day : ℤ) : Type 0 where
  pub low : min_day ≤ℤ day
  pub high : day ≤ℤ max_day

-- a second of these years
pub record IsMoment (moment : ℤ) : Type 0 where
  pub low : min_moment ≤ℤ moment
  pub high : moment ≤ℤ max_moment

-- whether it is such a day, and such a second
abbrev pub is_day : ℤ → Bool
is_day day = int_le min_day day && int_le day max_day

abbrev pub is_moment : ℤ → Bool
is_moment moment = int_le min_moment moment && int_le moment max_moment
