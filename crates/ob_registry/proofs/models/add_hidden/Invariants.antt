use Rattle.std.proofs.Common.{◌≡◌, ◌++◌, take}
use Rattle.ob_definition.specs.Making.{conditions_of}
use Rattle.ob_registry.specs.ModelFields.{members_in}
use Rattle.ob_registry.proofs.models.add_hidden.Given as goal

abbrev pub invariant-loop-condition : goal.invariant-loop-condition
invariant-loop-condition l = members_in l.members.items ≡ members_in l.fn.members.items ++ conditions_of (take l.condition-index l.condition-items)
