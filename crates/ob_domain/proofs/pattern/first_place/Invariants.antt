-- The text begins so at no place before.
use Rattle.std.proofs.Common.{◌≡◌, ℕ, ◌<◌, drop, false}
use Rattle.ob_domain.specs.Patterns.{begins}
use Rattle.ob_domain.proofs.pattern.first_place.Given as goal

abbrev pub invariant-loop-place : goal.invariant-loop-place
invariant-loop-place l = (k : ℕ) → k < l.place → begins l.pattern (drop k l.text) ≡ false
