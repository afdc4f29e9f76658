-- The moments that a clock gives.
use Rattle.std.specs.Prelude.{ℕ, suc, ℤ}
pub use Rattle.ob_base.specs.Times.{IsMoment}

-- the moments after the first
abbrev pub later : (ℕ → ℤ) → ℕ → ℤ
later moments k = moments (suc k)
