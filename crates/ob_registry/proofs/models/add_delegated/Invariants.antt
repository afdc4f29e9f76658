use Rattle.std.proofs.Common.{drop}
use Rattle.ob_definition.specs.Members.{links_of}
use Rattle.ob_registry.specs.Modelling.{AreMemberNames}
use Rattle.ob_registry.specs.ModelFields.{members_in}
use Rattle.ob_registry.proofs.Delegating.{AreJoined}
use Rattle.ob_registry.proofs.models.add_delegated.Given as goal

abbrev pub invariant-loop-left : goal.invariant-loop-left
invariant-loop-left l = record {
  names : AreMemberNames l.names (members_in l.members.items);
  joined : AreJoined l.gathering l.gathered (drop l.left (links_of l.gathering l.gathered)) (members_in l.members.items);
}
