use Rattle.std.proofs.Common.{take}
use Rattle.ob_registry.specs.Modelling.{AreMemberNames}
use Rattle.ob_registry.specs.ModelFields.{members_in}
use Rattle.ob_registry.proofs.models.names_of.Given as goal

abbrev pub invariant-loop-member : goal.invariant-loop-member
invariant-loop-member l = AreMemberNames l.names (members_in (take l.member-index l.members))
