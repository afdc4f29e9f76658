use Rattle.std.proofs.Common.{◌++◌, ◌≡◌, take}
use Rattle.ob_server.proofs.places.place_of.Given as goal

abbrev pub invariant-loop-step : goal.invariant-loop-step
invariant-loop-step l = l.place ≡ l.fn.above ++ take l.step-index l.below
