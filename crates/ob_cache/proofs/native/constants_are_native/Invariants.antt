use Rattle.std.proofs.Common.{ℕ, ◌<◌}
use Rattle.std.specs.List.{slice_get}
use Rattle.std.specs.Prelude.{IfSome}
use Rattle.ob_cache.specs.Native.{IsNativeModel}
use Rattle.ob_cache.proofs.native.constants_are_native.Given as goal

-- the models so far are native
abbrev pub invariant-loop-place : goal.invariant-loop-place
invariant-loop-place l = (k : ℕ) → k < l.place → IfSome (slice_get l.schema k) IsNativeModel
