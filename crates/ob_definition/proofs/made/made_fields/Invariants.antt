use Rattle.std.proofs.Common.{take}
use Rattle.std.specs.List.{AllZip}
use Rattle.ob_definition.specs.Findings.{Adds}
use Rattle.ob_definition.specs.Making.{AreMadeFaults, IsMade}
use Rattle.ob_definition.proofs.made.made_fields.Given as goal

abbrev pub invariant-loop-model : goal.invariant-loop-model
invariant-loop-model l =
    AllZip (IsMade l.gathering) (take l.model-index l.model-items) l.made.items × Adds (AreMadeFaults l.gathering (take l.model-index l.model-items)) l.initial.first l.first
