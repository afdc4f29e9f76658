use Rattle.std.specs.Prelude.{◌≡◌}
use Rattle.std.proofs.Common.{take}
use Rattle.ob_base.proofs.place.same_steps.Given as goal

-- the copy is the steps so far
abbrev pub invariant-loop-step : goal.invariant-loop-step
invariant-loop-step l = l.copy.items ≡ take l.step-index l.steps
