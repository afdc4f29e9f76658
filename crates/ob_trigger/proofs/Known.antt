-- What is known where there is something, and what is known of what has a number.
use Rattle.std.proofs.Common.{◌≡◌, ◌⊎◌, inl, inr, ℕ, zero, suc, true, false, List, Option, Some, None, refl, sym, ap, subst, ◌∙◌}
use Rattle.std.specs.Prelude.{All, IfSome, IsSome, IsSomeAnd, is_some}
use Rattle.std.proofs.lemmas.Option.{get_or_from_slice_get, option_and_then_some, slice_get_within}
use Rattle.ob_base.specs.declared.id.FieldNo.{FieldNo}
use Rattle.ob_base.specs.declared.id.ModelNo.{ModelNo}
use Rattle.ob_schema.specs.declared.info.FieldInfo.{FieldInfo}
use Rattle.ob_schema.specs.declared.info.Formula.{Formula}
use Rattle.ob_schema.specs.declared.info.ModelInfo.{ModelInfo}
use Rattle.ob_schema.specs.declared.info.Origin.{Origin}
use Rattle.ob_schema.specs.declared.info.Origin.TheVariants as origin
use Rattle.ob_schema.specs.Built.{numbered}
use Rattle.ob_schema.specs.Fields.{is_plain_from}
use Rattle.ob_schema.specs.Models.{IsField, IsFormulaIn, IsModel, IsOriginIn, IsRegistry, field_at, fields_of, model_at}

-- there is none, or this one
pub some_or_none : {X : Type 0} (o : Option X) → (o ≡ None) ⊎ ((x : X) × (o ≡ Some x))
some_or_none None = inl refl
some_or_none (Some x) = inr (x, refl)

-- where it is known of one, there is one
pub told_and : {X : Type 0} (o : Option X) (P : X → Type 0) → IsSomeAnd o P → (x : X) × (o ≡ Some x) × P x
told_and None P known = absurd known
told_and (Some x) P known = (x, refl, known)

-- it is known of the one that there is
pub known_at : {X : Type 0} (o : Option X) (x : X) (P : X → Type 0) → o ≡ Some x → IsSomeAnd o P → P x
known_at {X = X} o x P is known = let there : IsSomeAnd (Some x) P = subst (λ (p : Option X). IsSomeAnd p P) is known in there

-- what is known of the one that there is is known
pub tell_and : {X : Type 0} (o : Option X) (x : X) (P : X → Type 0) → o ≡ Some x → P x → IsSomeAnd o P
tell_and {X = X} o x P is known = subst (λ (p : Option X). IsSomeAnd p P) (sym is) known

-- the same of what is known if there is one
pub known_if : {X : Type 0} (o : Option X) (x : X) (P : X → Type 0) → o ≡ Some x → IfSome o P → P x
known_if {X = X} o x P is known = let there : IfSome (Some x) P = subst (λ (p : Option X). IfSome p P) is known in there

-- what is there is this one
pub is_there : {X : Type 0} (o : Option X) → IsSome o → (x : X) × (o ≡ Some x)
is_there None there = absurd cc
is_there (Some x) there = (x, refl)

-- there is something where there is this one
pub there_is : {X : Type 0} (o : Option X) (x : X) → o ≡ Some x → IsSome o
there_is {X = X} o x is = ap (λ (p : Option X). is_some p) is

-- there is none and one
pub none_there : {X : Type 0} (o : Option X) → o ≡ None → IsSome o → ⊥
none_there {X = X} o none there = let both : false ≡ true = sym (ap (λ (p : Option X). is_some p) none) ∙ there in cc

-- where it isn't so that there is none, there is one
pub some_unless : {X : Type 0} (o : Option X) → (o ≡ None → ⊥) → IsSome o
some_unless None not = absurd (not refl)
some_unless (Some x) not = refl

-- the one origin of plain fields
pub plain_is : (o : Origin) → is_plain_from o ≡ true → o ≡ origin.Plain
plain_is origin.Plain plain = refl
plain_is origin.Id plain = absurd cc
plain_is (origin.Delegated at) plain = absurd cc
plain_is (origin.Computed formula) plain = absurd cc

-- of all that have a number
pub All-numbered : {X : Type 0} (P : X → Type 0) (xs : List X) (n : ℕ) (x : X) → All P xs → numbered xs n ≡ Some x → P x
All-numbered P xs zero x all is = absurd cc
All-numbered P xs (suc i) x all is = subst P (get_or_from_slice_get xs i x x is) (all i x (slice_get_within xs i x is))

-- what is known of a field of a registry
pub record Field (models : List ModelInfo) (model : ModelNo) (number : FieldNo) (f : FieldInfo) : Type 0 where
  pub info : ModelInfo
  pub model_is : model_at models model ≡ Some info
  pub valid : IsModel models model info
  pub right : IsField models model info f

-- a field of a registry has its model, and is right in it
pub Field-at : (models : List ModelInfo) (model : ModelNo) (number : FieldNo) (f : FieldInfo) → IsRegistry models → field_at models model number ≡ Some f → Field models model number f
Field-at models model number f registry at =
    option_and_then_some (λ info. numbered (fields_of info) number.0) (model_at models model) f at
    (λ info is found. let valid = registry.each model info is in record { info = info; model_is = is; valid = valid; right = All-numbered (IsField models model info) (fields_of info) number.0 f valid.fields found })

-- and of one that a formula computes
pub Formula-at : (models : List ModelInfo) (model : ModelNo) (number : FieldNo) (f : FieldInfo) (formula : Formula) → Field models model number f → f.origin ≡ origin.Computed formula → IsFormulaIn models model f formula
Formula-at models model number f formula field is = subst (λ (o : Origin). IsOriginIn models model field.info f o) is field.right.origin
