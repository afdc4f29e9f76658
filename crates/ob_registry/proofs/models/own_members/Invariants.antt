use Rattle.std.proofs.Common.{◌≡◌, map, take}
use Rattle.ob_definition.specs.Members.{own_member}
use Rattle.ob_registry.specs.ModelFields.{members_in}
use Rattle.ob_registry.proofs.models.own_members.Given as goal

abbrev pub invariant-loop-def : goal.invariant-loop-def
invariant-loop-def l = members_in l.members.items ≡ map (own_member l.entry) (take l.def-index l.automatic)
