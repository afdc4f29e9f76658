use Rattle.std.proofs.Common.{◌≡◌, map, take, option_and_then}
use Rattle.ob_tables.specs.Trees.{step_of}
use Rattle.ob_tables.proofs.forest.squared.Given as goal

-- the steps so far are taken twice
abbrev pub invariant-loop-step : goal.invariant-loop-step
invariant-loop-step l = l.squared.items ≡ map (λ step. option_and_then (step_of l.fn.steps) step) (take l.step-index l.fn.steps)
