use Rattle.std.proofs.Common.{take}
use Rattle.std.specs.Prelude.{Any}
use Rattle.ob_definition.specs.Findings.{Adds, IsFaultAt}
use Rattle.ob_registry.specs.ModelFields.{member_of}
use Rattle.ob_registry.specs.Telling.{IsCoverWrong, spot_of, steps_in}
use Rattle.ob_registry.proofs.formulas.note_uncovered.Given as goal

abbrev pub invariant-loop-read : goal.invariant-loop-read
invariant-loop-read l = Adds (λ why. Any (λ read. IsFaultAt (spot_of (member_of l.member)) (IsCoverWrong (steps_in l.declared) read) why) (steps_in (take l.read-index l.reads))) l.initial.first l.first
