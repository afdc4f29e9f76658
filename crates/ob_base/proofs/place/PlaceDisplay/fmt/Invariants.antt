-- The steps after the first, each after a dot, so far.
use Rattle.std.proofs.Common.{take}
use Rattle.std.specs.List.{flat_map}
use Rattle.std.specs.Fmt.{HasWritten, IsPlainFormatter}
use Rattle.ob_base.proofs.Dotted.{dotted}
use Rattle.ob_base.proofs.place.PlaceDisplay.fmt.Given as goal

abbrev pub invariant-loop-step : goal.invariant-loop-step
invariant-loop-step g l =
    IsPlainFormatter l.initial.f → HasWritten g.W.Write.write_str_gives l.initial.f (flat_map dotted (take l.step-index l.rest)) l.f
