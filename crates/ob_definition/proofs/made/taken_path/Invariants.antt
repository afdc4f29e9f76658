use Rattle.std.proofs.Common.{take}
use Rattle.ob_definition.specs.ByName.{declared_fields}
use Rattle.ob_definition.specs.Findings.{Adds}
use Rattle.ob_definition.specs.Making.{TakesPath}
use Rattle.ob_definition.proofs.made.taken_path.Given as goal

abbrev pub invariant-loop-field : goal.invariant-loop-field
invariant-loop-field l = Adds (TakesPath (declared_fields (take l.field-index l.field-items))) l.initial.first l.first
