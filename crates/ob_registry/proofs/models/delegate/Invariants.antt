use Rattle.std.proofs.Common.{◌≡◌, ◌++◌, take}
use Rattle.ob_registry.specs.Modelling.{AreMemberNames, delegated_beside}
use Rattle.ob_registry.specs.ModelFields.{members_in}
use Rattle.ob_registry.proofs.models.delegate.Given as goal

abbrev pub invariant-loop-member : goal.invariant-loop-member
invariant-loop-member l = record {
  names : AreMemberNames l.names (members_in l.members.items);
  members : members_in l.members.items ≡ members_in l.fn.members.items ++ delegated_beside l.entry l.link (members_in (take l.member-index l.parent)) (members_in l.fn.members.items);
}
