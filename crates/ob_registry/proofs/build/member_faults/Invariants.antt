use Rattle.std.proofs.Common.{take}
use Rattle.ob_definition.specs.Findings.{Adds}
use Rattle.ob_registry.specs.ModelFields.{members_in}
use Rattle.ob_registry.proofs.KeyRooms.{AreKeptFaults}
use Rattle.ob_registry.proofs.build.member_faults.Given as goal

abbrev pub invariant-loop-member : goal.invariant-loop-member
invariant-loop-member l = Adds (AreKeptFaults l.models l.number (members_in (take l.member-index l.member-items))) l.initial.first l.first
