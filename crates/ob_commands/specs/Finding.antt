-- What is found in objects of values, as the steps have it.
use Rattle.std.specs.Prelude.{◌≡◌, ◌++◌, List, IfSome, false}
use Rattle.ob_base.specs.declared.place.PathStep.{PathStep}
use Rattle.ob_base.specs.declared.refusal.Refusal.{Refusal}
use Rattle.ob_base.specs.declared.refusal.Refusal.TheVariants as refusal
use Rattle.ob_effect.specs.Rights.{may_give}
use Rattle.ob_effect.specs.declared.asking.Caller.{Caller}
use Rattle.ob_commands.specs.declared.findings.Findings.{Findings}

-- a field that is told is one that the caller may not give
abbrev pub IsFound : Caller → Findings → Type 0
IsFound by found = IfSome found.withheld (λ field. may_give by field.model field.field ≡ false)

-- what is found is told: a field that the caller may not give, or a place below the argument
abbrev pub TellsFindings : Caller → List PathStep → Refusal → Type 0
TellsFindings by argument (refusal.FieldRight model field) = may_give by model field ≡ false
TellsFindings by argument (refusal.Request place) = (below : List PathStep) × (place ≡ argument ++ below)
TellsFindings by argument _ = ⊥
