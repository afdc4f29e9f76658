use Rattle.std.proofs.Common.{take}
use Rattle.std.specs.List.{AllZip}
use Rattle.ob_registry.specs.Modelling.{IsModelled}
use Rattle.ob_registry.proofs.models.models_of.Given as goal

abbrev pub invariant-loop-place : goal.invariant-loop-place
invariant-loop-place l = AllZip (IsModelled l.gathering) (take l.place l.gathering) l.list.items
