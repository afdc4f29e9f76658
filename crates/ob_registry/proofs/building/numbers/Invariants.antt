use Rattle.std.proofs.Common.{◌≡◌, map, take}
use Rattle.ob_registry.specs.ModelFields.{named_in, number_in}
use Rattle.ob_registry.proofs.Somes.{somes}
use Rattle.ob_registry.proofs.building.numbers.Given as goal

abbrev pub invariant-loop-name : goal.invariant-loop-name
invariant-loop-name l = l.numbers ≡ somes (map (number_in (named_in l.model.named l.model.members.items)) (take l.name-index l.names))
