-- The field at a place of a model's fields.
use Rattle.std.proofs.Common.{◌≡◌, ℕ, suc, ◌+◌, ◌<◌, List, length, Option, Some, sym, ap, subst, ◌∙◌, arith}
use Rattle.std.specs.Prelude.{All, IfSome, option_and_then, slice_get, is_some}
use Rattle.std.proofs.lemmas.Option.{get_or_from_slice_get, slice_get_within}
use Rattle.ob_base.specs.declared.id.ModelNo.{ModelNo}
use Rattle.ob_schema.specs.Built.{numbered}
use Rattle.ob_schema.specs.Models.{HasField, field_at, fields_of, model_at}
use Rattle.ob_schema.specs.declared.info.FieldInfo.{FieldInfo}
use Rattle.ob_schema.specs.declared.info.ModelInfo.{ModelInfo}
use Rattle.ob_call.proofs.CallerLemmas.{slice_get-before}
use Rattle.ob_rows.proofs.OwnFields.{there_at}

-- ---- what is known where there is something

-- it is known of what there is
pub told : {X : Type 0} (o : Option X) (x : X) (P : X → Type 0) → o ≡ Some x → IfSome o P → P x
told {X = X} o x P is known = let there : IfSome (Some x) P = subst (λ (p : Option X). IfSome p P) is known in there

-- and what is known of what there is is known
pub tell : {X : Type 0} (o : Option X) (x : X) (P : X → Type 0) → o ≡ Some x → P x → IfSome o P
tell {X = X} o x P is known = subst (λ (p : Option X). IfSome p P) (sym is) known

-- what holds of each field holds of one at a place
pub All-at : (P : FieldInfo → Type 0) (fields : List FieldInfo) (i : ℕ) (f : FieldInfo) → slice_get fields i ≡ Some f → All P fields → P f
All-at P fields i f at all = subst P (get_or_from_slice_get fields i f f at) (all i f (slice_get_within fields i f at))

-- ---- a field by its place

-- the field at a place of the fields of a model
pub record StepIn (models : List ModelInfo) (model : ModelNo) (info : ModelInfo) (i : ℕ) : Type 0 where
  pub f : FieldInfo
  pub field_is : slice_get info.fields i ≡ Some f
  pub own : numbered (fields_of info) (i + 1) ≡ Some f
  pub at : field_at models model (record { 0 = i + 1 }) ≡ Some f

-- the number of a place
numbered-more : (fields : List FieldInfo) (i : ℕ) → numbered fields (i + 1) ≡ slice_get fields i
numbered-more fields i = ap (numbered fields) (let e : i + 1 ≡ suc i = omega arith in e)

-- what has it among the named fields has it among all
field_of-more : (info : ModelInfo) (i : ℕ) (f : FieldInfo) → slice_get info.fields i ≡ Some f → numbered (fields_of info) (i + 1) ≡ Some f
field_of-more info i f at = numbered-more (fields_of info) i ∙ slice_get-before info.fields info.hidden i f at

-- where there is one
pub step_in : (models : List ModelInfo) (model : ModelNo) (info : ModelInfo) (i : ℕ) → model_at models model ≡ Some info → i < length info.fields → StepIn models model info i
step_in models model info i is lt =
    let (f, field_is) = there_at info.fields i lt in
    record {
      f = f;
      field_is = field_is;
      own = field_of-more info i f field_is;
      at = ap (λ (o : Option ModelInfo). option_and_then (λ own. numbered (fields_of own) (i + 1)) o) is ∙ field_of-more info i f field_is;
    }

-- so there is the field
pub field_there : (models : List ModelInfo) (model : ModelNo) (info : ModelInfo) (i : ℕ) → model_at models model ≡ Some info → i < length info.fields → HasField models model (record { 0 = i + 1 })
field_there models model info i is lt = ap is_some (step_in models model info i is lt).at
