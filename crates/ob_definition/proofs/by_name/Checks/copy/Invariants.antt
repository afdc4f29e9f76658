use Rattle.std.proofs.Common.{◌≡◌, map, take}
use Rattle.ob_definition.specs.ByName.{declared_checks}
use Rattle.ob_definition.specs.Gathered.{check_at}
use Rattle.ob_definition.proofs.by_name.Checks.copy.Given as goal

abbrev pub invariant-loop-check : goal.invariant-loop-check
invariant-loop-check l = l.copy ≡ map (λ check. check_at l.entry check.check) (declared_checks (take l.check-index l.check-items))
