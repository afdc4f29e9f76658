use Rattle.std.proofs.Common.{take}
use Rattle.std.specs.List.{AllZip}
use Rattle.ob_definition.specs.ByName.{sets_of}
use Rattle.ob_registry.specs.Building.{AreNumbers}
use Rattle.ob_registry.specs.ModelFields.{named_in}
use Rattle.ob_registry.proofs.building.unique_sets.Given as goal

abbrev pub invariant-loop-set : goal.invariant-loop-set
invariant-loop-set l = AllZip (λ u. AreNumbers (named_in l.model.named l.model.members.items) u.names) (sets_of (take l.set-index l.sets)) l.unique
