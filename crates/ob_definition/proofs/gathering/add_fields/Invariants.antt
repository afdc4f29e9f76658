use Rattle.std.proofs.Common.{◌≡◌, take}
use Rattle.ob_definition.specs.Findings.{Adds}
use Rattle.ob_definition.specs.Gathered.{with_fields}
use Rattle.ob_definition.specs.Rooms.{IsFieldTwiceFault}
use Rattle.ob_definition.proofs.gathering.add_fields.Given as goal

abbrev pub invariant-loop-def : goal.invariant-loop-def
invariant-loop-def l =
    (l.fields ≡ with_fields l.entry l.initial.fields (take l.def-index l.defs))
    × Adds (IsFieldTwiceFault l.entry l.initial.fields (take l.def-index l.defs)) l.initial.first l.first
