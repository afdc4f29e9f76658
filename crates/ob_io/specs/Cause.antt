-- When a call to the outside may say that it failed.
use Rattle.std.specs.Prelude.{ℕ, ◌-◌, ◌^◌, ◌<◌, ◌≤◌, ◌⊎◌}

-- the count rose, or stands at the greatest u64, where it can't rise any more
abbrev pub Rose : ℕ → ℕ → Type 0
Rose before now = (before < now) ⊎ (2 ^ 64 - 1 ≤ now)

-- the count of faults doesn't fall, and the call failed only where it rose
pub record HasCause (before now : ℕ) (failed : Type 0) : Type 0 where
  pub no_fall : before ≤ now
  pub cause : failed → Rose before now
