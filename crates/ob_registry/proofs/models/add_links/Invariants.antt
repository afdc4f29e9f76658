use Rattle.std.proofs.Common.{◌≡◌, ◌++◌, map, take}
use Rattle.ob_definition.specs.Members.{own_member}
use Rattle.ob_registry.specs.ModelFields.{members_in}
use Rattle.ob_registry.proofs.models.add_links.Given as goal

abbrev pub invariant-loop-link : goal.invariant-loop-link
invariant-loop-link l = members_in l.members.items ≡ members_in l.fn.members.items ++ map (λ m. own_member l.entry m.field) (take l.link-index l.link-items)
