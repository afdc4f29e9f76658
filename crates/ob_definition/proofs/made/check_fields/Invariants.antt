use Rattle.std.proofs.Common.{◌≡◌, map, take}
use Rattle.ob_definition.specs.ByName.{declared_checks}
use Rattle.ob_definition.specs.Making.{conditions_of}
use Rattle.ob_definition.specs.Members.{check_member}
use Rattle.ob_definition.proofs.made.check_fields.Given as goal

abbrev pub invariant-loop-declared : goal.invariant-loop-declared
invariant-loop-declared l = conditions_of l.fields.items ≡ map check_member (declared_checks (take l.declared-index l.checks))
