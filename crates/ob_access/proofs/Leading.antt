-- A relation of a registry leads to one of its models.
use Rattle.std.proofs.Common.{◌≡◌, ℕ, zero, suc, List, [], ◌∷◌, Option, Some, None, option_and_then, is_some, refl, sym, ap, ◌∙◌, subst}
use Rattle.std.specs.Prelude.{IfSome, IsSomeAnd, slice_get}
use Rattle.std.specs.List.{AllByRecursion}
use Rattle.std.proofs.lemmas.List.Elements.{recursion_from_All}
use Rattle.ob_base.specs.declared.id.FieldNo.{FieldNo}
use Rattle.ob_base.specs.declared.id.ModelNo.{ModelNo}
use Rattle.ob_schema.specs.Built.{numbered}
use Rattle.ob_schema.specs.Models.{HasModel, IsField, IsModel, field_at, fields_of, model_at}
use Rattle.ob_schema.specs.declared.info.FieldInfo.{FieldInfo}
use Rattle.ob_schema.specs.declared.info.ModelInfo.{ModelInfo}

-- what holds of all holds of one
one_of : {A : Type 0} (P : A → Type 0) (xs : List A) (n : ℕ) (x : A) → AllByRecursion P xs → slice_get xs n ≡ Some x → P x
one_of P [] n x all is = absurd (let none : None ≡ Some x = is in cc)
one_of P (y ∷ ys) zero x all is = let e : y ≡ x = (let same : Some y ≡ Some x = is in cc) in subst P e all.0
one_of P (y ∷ ys) (suc n) x all is = one_of P ys n x all.1 is

numbered_of : {A : Type 0} (P : A → Type 0) (xs : List A) (n : ℕ) (x : A) → AllByRecursion P xs → numbered xs n ≡ Some x → P x
numbered_of P xs zero x all is = absurd (let none : None ≡ Some x = is in cc)
numbered_of P xs (suc n) x all is = one_of P xs n x all is

some_and : {A : Type 0} (P : A → Type 0) (o : Option A) (x : A) → o ≡ Some x → IsSomeAnd o P → P x
some_and P (Some y) x is holds = let e : y ≡ x = cc in subst P e holds
some_and P None x is holds = absurd holds

-- a field of a model that names rows of another: that one is there
leads : (models : List ModelInfo) (model : ModelNo) (info : ModelInfo) (number : FieldNo) (field : FieldInfo) (target : ModelNo) → model_at models model ≡ Some info → IsModel models model info
    → field_at models model number ≡ Some field → field.relation ≡ Some target → HasModel models target
leads models model info number field target here law at is =
    let there : numbered (fields_of info) number.0 ≡ Some field = sym (ap (option_and_then (λ (i : ModelInfo). numbered (fields_of i) number.0)) here) ∙ at in
    let own : IsField models model info field = numbered_of (IsField models model info) (fields_of info) number.0 field (recursion_from_All (IsField models model info) (fields_of info) law.fields) there in
    some_and (HasModel models) field.relation target is (own.relation (sym own.relation_alone ∙ ap is_some is))

if_some : {A : Type 0} (P : A → Type 0) (o : Option A) → ((x : A) → o ≡ Some x → P x) → IfSome o P
if_some P (Some x) holds = holds x refl
if_some P None holds = tt

pub leads_there : (models : List ModelInfo) (model : ModelNo) (info : ModelInfo) (number : FieldNo) (field : FieldInfo) → model_at models model ≡ Some info → IsModel models model info
    → field_at models model number ≡ Some field → IfSome field.relation (HasModel models)
leads_there models model info number field here law at = if_some (HasModel models) field.relation (λ target is. leads models model info number field target here law at is)
