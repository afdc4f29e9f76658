-- How slowly a connection may send, by what it gave and by the time that its reads took.
use Rattle.std.specs.Prelude.{ℕ, ◌+◌, ◌-◌, ◌^◌, min, nat_lt, nat_le, ◌&&◌, Bool, if◌then◌else◌}
use Rattle.std.specs.Duration.{max_nanos}

-- the bytes that a connection gave since its window began, and the nanoseconds that its reads took,
-- as far as a u64 and a duration can tell
pub record Pace : Type 0 where
  pub gave : ℕ
  pub spent : ℕ

-- no read yet
abbrev pub new_window : Pace
new_window = record { gave = 0; spent = 0 }

-- after a read that gave so many bytes and took so many nanoseconds
abbrev pub after_read : (count nanos : ℕ) → Pace → Pace
after_read count nanos pace = record { gave = min (pace.gave + count) (2 ^ 64 - 1); spent = min (pace.spent + nanos) max_nanos }

-- whether the window is over: its reads took 30 seconds
abbrev pub is_over : Pace → Bool
is_over pace = nat_le 30_000_000_000 pace.spent

-- whether the window is over with fewer than 256 bytes
abbrev pub is_too_slow : Pace → Bool
is_too_slow pace = is_over pace && nat_lt pace.gave 256

-- the window that the next read falls in
abbrev pub next_window : Pace → Pace
next_window pace = if is_over pace then new_window else pace
