use Rattle.std.proofs.Common.{◌≡◌, take}
use Rattle.ob_definition.specs.Findings.{Adds}
use Rattle.ob_definition.specs.Gathered.{with_checks}
use Rattle.ob_definition.specs.Rooms.{IsCheckTwiceFault}
use Rattle.ob_definition.proofs.gathering.add_checks.Given as goal

abbrev pub invariant-loop-check : goal.invariant-loop-check
invariant-loop-check l =
    (l.checks ≡ with_checks l.entry l.initial.checks (take l.check-index l.given))
    × Adds (IsCheckTwiceFault l.entry l.initial.checks (take l.check-index l.given)) l.initial.first l.first
