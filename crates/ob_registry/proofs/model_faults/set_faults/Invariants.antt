use Rattle.std.proofs.Common.{take}
use Rattle.ob_definition.specs.ByName.{sets_of}
use Rattle.ob_definition.specs.Findings.{Adds}
use Rattle.ob_registry.specs.ModelFields.{named_in}
use Rattle.ob_registry.specs.Telling.{AreSetFaults}
use Rattle.ob_registry.proofs.model_faults.set_faults.Given as goal

abbrev pub invariant-loop-set : goal.invariant-loop-set
invariant-loop-set l = Adds (AreSetFaults (named_in l.model.named l.model.members.items) (sets_of (take l.set-index l.set-items))) l.initial.first l.first
