-- The engine may be asked, and nothing is staged where it is told so.
use denote.Text.{Utf8}
use denote.Shadow.{shadow}
use Rattle.probe_models.specs.Steps.{IsReady}
use Rattle.probe_models.proofs.steps.put_steps.Given as goal

abbrev pub invariant-loop-step : goal.invariant-loop-step
invariant-loop-step l = IsReady l.is_settled l.engine.held × shadow (Utf8 l.between)
