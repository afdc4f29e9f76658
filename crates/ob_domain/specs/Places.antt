-- Where a list is wrong, and how the code's answers stand for what is defined.
use Rattle.std.specs.Prelude.{◌≡◌, ◌≢◌, ℕ, List, map, Result, Ok, Err}
use Rattle.ob_base.specs.declared.place.PathStep.{PathStep}
use Rattle.ob_base.specs.declared.place.PathStep.TheVariants as step
use Rattle.ob_domain.specs.declared.fault.DomainFault.{DomainFault}
use Rattle.ob_domain.specs.declared.fault.DomainFault.TheVariants as fault
use Rattle.ob_domain.specs.declared.fault.Unfit.{Unfit}
use Rattle.ob_domain.specs.declared.fault.Unfit.TheVariants as unfit

-- the place of the items of these numbers, each in the one before it
abbrev pub place_of : List ℕ → List PathStep
place_of numbers = map step.Item numbers

-- the fault of a criterion at the item of these numbers
abbrev pub fault_at : Unfit → List ℕ → DomainFault
fault_at unfit.Field numbers = fault.Field (place_of numbers)
fault_at unfit.Operator numbers = fault.Operator (place_of numbers)
fault_at unfit.Operand numbers = fault.Operand (place_of numbers)
fault_at unfit.NotStored numbers = fault.NotStored (place_of numbers)
fault_at unfit.NoTree numbers = fault.NoTree (place_of numbers)
fault_at unfit.NoMemory numbers = fault.NoMemory

-- what is given, or the fault at the item of these numbers
abbrev pub told_at : {A : Type 0} → List ℕ → Result A Unfit → Result A DomainFault
told_at numbers (Ok x) = Ok x
told_at numbers (Err why) = Err (fault_at why numbers)

-- the fault that is wanted, or want of memory
abbrev pub IsFault : DomainFault → DomainFault → Type 0
IsFault answer wanted = answer ≢ fault.NoMemory → answer ≡ wanted

-- an answer, seen by this view, is what is defined, or the defined fault, or want of memory
abbrev pub IsResult : {A B : Type 0} → (A → B) → Result A Unfit → Result B Unfit → Type 0
IsResult seen (Ok x) defined = defined ≡ Ok (seen x)
IsResult seen (Err why) defined = why ≢ unfit.NoMemory → defined ≡ Err why

-- the same of a list, or of a part of it
abbrev pub IsRead : {A B : Type 0} → (A → B) → Result A DomainFault → Result B DomainFault → Type 0
IsRead seen (Ok x) defined = defined ≡ Ok (seen x)
IsRead seen (Err why) defined = why ≢ fault.NoMemory → defined ≡ Err why

-- the same beside how many terms there may still be
abbrev pub IsCounted : {A B : Type 0} → (A → B) → Result (A × ℕ) DomainFault → Result (B × ℕ) DomainFault → Type 0
IsCounted seen answer defined = IsRead (λ read. (seen read.0, read.1)) answer defined
