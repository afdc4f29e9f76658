use Rattle.std.proofs.Common.{◌≡◌, ◌++◌, map, take}
use Rattle.ob_definition.specs.Members.{own_member}
use Rattle.ob_registry.specs.ModelFields.{members_in}
use Rattle.ob_registry.proofs.models.add_declared.Given as goal

abbrev pub invariant-loop-field : goal.invariant-loop-field
invariant-loop-field l = members_in l.members.items ≡ members_in l.fn.members.items ++ map (λ f. own_member f.entry f.def.now) (take l.field-index l.field-items)
