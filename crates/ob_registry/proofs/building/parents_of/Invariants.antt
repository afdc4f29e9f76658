use Rattle.std.proofs.Common.{◌≡◌, map, take}
use Rattle.ob_definition.specs.declared.made.ParentLink.{ParentLink}
use Rattle.ob_registry.specs.Building.{parent_found}
use Rattle.ob_registry.specs.ModelFields.{named_in}
use Rattle.ob_registry.proofs.Somes.{somes}
use Rattle.ob_registry.proofs.building.parents_of.Given as goal

abbrev pub invariant-loop-link : goal.invariant-loop-link
invariant-loop-link l = l.parents ≡ somes (map (λ (i : ParentLink). parent_found l.models (named_in l.model.named l.model.members.items) i.parent.now) (take l.link-index l.link-items))
