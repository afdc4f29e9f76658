use Rattle.std.proofs.Common.{◌≡◌, map, take}
use Rattle.ob_registry.specs.ModelFields.{named_in}
use Rattle.ob_registry.proofs.Somes.{somes}
use Rattle.ob_registry.proofs.TermsOf.{term_found}
use Rattle.ob_registry.proofs.building.order_of.Given as goal

abbrev pub invariant-loop-entry : goal.invariant-loop-entry
invariant-loop-entry l = l.terms ≡ somes (map (term_found (named_in l.model.named l.model.members.items)) (take l.entry-index l.entry-items))
