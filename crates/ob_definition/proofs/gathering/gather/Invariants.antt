use Rattle.std.proofs.Common.{◌≡◌, take}
use Rattle.ob_definition.specs.EntryFaults.{IsGatheringFault}
use Rattle.ob_definition.specs.Findings.{Adds}
use Rattle.ob_definition.specs.Gathered.{gathered}
use Rattle.ob_definition.proofs.gathering.gather.Given as goal

abbrev pub invariant-loop-place : goal.invariant-loop-place
invariant-loop-place l = (l.gathering ≡ gathered (take l.place l.defs)) × Adds (IsGatheringFault (take l.place l.defs)) l.initial.first l.first
