use Rattle.std.proofs.Common.{◌≡◌, ◌<◌, ℕ, None, IsSome}
use Rattle.ob_tables.specs.Trees.{step_of}
use Rattle.ob_tables.proofs.forest.least_leaving.Given as goal

-- none of the places so far
abbrev pub invariant-loop-place : goal.invariant-loop-place
invariant-loop-place l = (k : ℕ) → k < l.place → IsSome (step_of l.near k) → step_of l.far k ≡ None → ⊥
