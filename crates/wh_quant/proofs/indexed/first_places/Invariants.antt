use Rattle.std.proofs.Common.{take}
use Rattle.wh_quant.specs.Indexed.{AreFirstPlaces}
use Rattle.wh_quant.proofs.indexed.first_places.Given as goal

abbrev pub invariant-loop-place : goal.invariant-loop-place
invariant-loop-place l = AreFirstPlaces l.places (take l.place l.quants)
