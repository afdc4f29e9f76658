-- What parts that follow one another gave, where none of them ended in a fault.
use Rattle.std.proofs.Common.{◌≡◌, ◌≢◌, ◌&&◌, ℕ, Bool, true, false, if◌then◌else◌, List, Option, Some, None, Result, Ok, Err, refl}
use Rattle.std.specs.Option.{option_map_or}
use Rattle.ob_base.specs.Chain.{◌>>=◌}
use Rattle.ob_domain.specs.Places.{fault_at, told_at}
use Rattle.ob_domain.specs.declared.fault.DomainFault.{DomainFault}
use Rattle.ob_domain.specs.declared.fault.DomainFault.TheVariants as fault
use Rattle.ob_domain.specs.declared.fault.Unfit.{Unfit}

abbrev given : {A : Type 0} → A → Result A DomainFault
given x = Ok x

pub refused : {A : Type 0} (why : DomainFault) (x : A) → Err why ≡ given x → ⊥
refused why x is = cc

pub same_ok : {A : Type 0} (x y : A) → given x ≡ Ok y → x ≡ y
same_ok x y is = cc

pub then_ok : {A B : Type 0} (r : Result A DomainFault) (next : A → Result B DomainFault) (y : B) → (r >>= next) ≡ Ok y → (x : A) × (r ≡ Ok x) × (next x ≡ Ok y)
then_ok (Ok x) next y is = (x, refl, is)
then_ok (Err why) next y is = absurd (refused why y is)

pub when_ok : {A : Type 0} (b : Bool) (x y : A) (why : DomainFault) → (if b then Ok x else Err why) ≡ Ok y → (b ≡ true) × (x ≡ y)
when_ok true x y why is = (refl, same_ok x y is)
when_ok false x y why is = absurd (refused why y is)

pub if_ok : {A : Type 0} (b : Bool) (r : Result A DomainFault) (y : A) (why : DomainFault) → (if b then r else Err why) ≡ Ok y → (b ≡ true) × (r ≡ Ok y)
if_ok true r y why is = (refl, is)
if_ok false r y why is = absurd (refused why y is)

pub some_ok : {A B : Type 0} (o : Option A) (next : A → Result B DomainFault) (y : B) (why : DomainFault) → option_map_or next o (Err why) ≡ Ok y → (x : A) × (o ≡ Some x) × (next x ≡ Ok y)
some_ok (Some x) next y why is = (x, refl, is)
some_ok None next y why is = absurd (refused why y is)

pub told_ok : {A : Type 0} (numbers : List ℕ) (r : Result A Unfit) (x : A) → told_at numbers r ≡ Ok x → r ≡ Ok x
told_ok numbers (Ok y) x is = let same : y ≡ x = same_ok y x is in cc
told_ok numbers (Err why) x is = absurd (refused (fault_at why numbers) x is)

pub and_true : (a b : Bool) → (a && b) ≡ true → (a ≡ true) × (b ≡ true)
and_true true b is = (refl, is)
and_true false b is = absurd (cc)

-- a fault that can be no other
pub only_memory : (why : DomainFault) → ((why ≢ fault.NoMemory) → ⊥) → why ≡ fault.NoMemory
only_memory fault.NoMemory never = refl
only_memory why never = absurd (never (λ e. cc))
