-- What a registry has: the models of its fields, and those to which relations lead.
use Rattle.std.proofs.Common.{◌≡◌, ℕ, zero, suc, List, [], ◌∷◌, Option, Some, None, option_and_then, is_some, refl, sym, ap, ◌∙◌, subst}
use Rattle.std.specs.Prelude.{IfSome, IsSome, IsSomeAnd, slice_get}
use Rattle.std.specs.List.{AllByRecursion}
use Rattle.std.proofs.lemmas.List.Elements.{recursion_from_All}
use Rattle.ob_base.specs.declared.id.ModelNo.{ModelNo}
use Rattle.ob_domain.specs.Aims.{target_at}
use Rattle.ob_schema.specs.Built.{numbered}
use Rattle.ob_schema.specs.Models.{HasField, HasModel, IsField, IsModel, field_at, fields_of, model_at}
use Rattle.ob_schema.specs.declared.info.FieldInfo.{FieldInfo}
use Rattle.ob_schema.specs.declared.info.ModelInfo.{ModelInfo}
use Rattle.ob_schema.specs.declared.info.Step.{Step}

-- a field stands in a model that there is
model_of : {A B : Type 0} (find : A → Option B) (o : Option A) → IsSome (option_and_then find o) → IsSome o
model_of find (Some x) has = refl
model_of find None has = absurd (cc)

pub has_model : (models : List ModelInfo) (at : Step) → HasField models at.model at.field → HasModel models at.model
has_model models at has = model_of (λ info. numbered (fields_of info) at.field.0) (model_at models at.model) has

-- what holds of all holds of one
one_of : {A : Type 0} (P : A → Type 0) (xs : List A) (n : ℕ) (x : A) → AllByRecursion P xs → slice_get xs n ≡ Some x → P x
one_of P [] n x all is = absurd (let none : None ≡ Some x = is in cc)
one_of P (y ∷ ys) zero x all is = let e : y ≡ x = (let same : Some y ≡ Some x = is in cc) in subst P e all.0
one_of P (y ∷ ys) (suc n) x all is = one_of P ys n x all.1 is

numbered_of : {A : Type 0} (P : A → Type 0) (xs : List A) (n : ℕ) (x : A) → AllByRecursion P xs → numbered xs n ≡ Some x → P x
numbered_of P xs zero x all is = absurd (let none : None ≡ Some x = is in cc)
numbered_of P xs (suc n) x all is = one_of P xs n x all is

some_and : {A : Type 0} (P : A → Type 0) (o : Option A) (x : A) → o ≡ Some x → IsSomeAnd o P → P x
some_and P (Some y) x is holds = let e : y ≡ x = cc in subst P e holds
some_and P None x is holds = absurd holds

-- where a relation leads, by the field's law
field_leads : (models : List ModelInfo) (model : ModelNo) (info : ModelInfo) (field : FieldInfo) (target : ModelNo) → IsField models model info field → field.relation ≡ Some target → HasModel models target
field_leads models model info field target law leads = some_and (HasModel models) field.relation target leads (law.relation (sym law.relation_alone ∙ ap is_some leads))

found_leads : (models : List ModelInfo) (model : ModelNo) (info : ModelInfo) (n : ℕ) (found : Option FieldInfo) (target : ModelNo) → IsModel models model info → numbered (fields_of info) n ≡ found
    → option_and_then (λ f. f.relation) found ≡ Some target → HasModel models target
found_leads models model info n None target law at leads = absurd (let none : None ≡ Some target = leads in cc)
found_leads models model info n (Some field) target law at leads =
    field_leads models model info field target (numbered_of (IsField models model info) (fields_of info) n field (recursion_from_All (IsField models model info) (fields_of info) law.fields) at) leads

-- a relation leads to a model that there is
pub relation_leads : (models : List ModelInfo) (at : Step) (info : ModelInfo) (target : ModelNo) → model_at models at.model ≡ Some info → IsModel models at.model info → target_at models at ≡ Some target
    → HasModel models target
relation_leads models at info target here law leads =
    let there : field_at models at.model at.field ≡ numbered (fields_of info) at.field.0 = ap (option_and_then (λ (i : ModelInfo). numbered (fields_of i) at.field.0)) here in
    found_leads models at.model info at.field.0 (numbered (fields_of info) at.field.0) target law refl (sym (ap (option_and_then (λ (f : FieldInfo). f.relation)) there) ∙ leads)

pub if_some : {A : Type 0} (P : A → Type 0) (o : Option A) → ((x : A) → o ≡ Some x → P x) → IfSome o P
if_some P (Some x) holds = holds x refl
if_some P None holds = tt
