use Rattle.std.proofs.Common.{◌≡◌, ◌<◌, ℕ, Some}
use Rattle.ob_tables.specs.Trees.{IsLeastPlace, step_of}
use Rattle.ob_tables.proofs.forest.least_led_to.Given as goal

-- the least of those so far
abbrev pub invariant-loop-step : goal.invariant-loop-step
invariant-loop-step l = IsLeastPlace (λ place. (from : ℕ) × (from < l.step-index) × (step_of l.steps from ≡ Some place)) l.least
