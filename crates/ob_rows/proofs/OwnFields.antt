-- The fields of a model that have a name, by their numbers.
use Rattle.std.proofs.Common.{◌≡◌, ℕ, suc, ◌<◌, ◌-◌, Bool, false, List, [], ◌∷◌, get_or, length, Option, Some, None, sym, ap, ◌∙◌, arith}
use Rattle.std.specs.Prelude.{IfSome, option_and_then, slice_get}
use Rattle.std.specs.Option.{option_map_or}
use Rattle.std.proofs.lemmas.Option.{slice_get-get_or}
use Rattle.ob_base.specs.declared.id.FieldNo.{FieldNo}
use Rattle.ob_base.specs.declared.id.ModelNo.{ModelNo}
use Rattle.ob_call.proofs.CallerLemmas.{named-range, numbered-before}
use Rattle.ob_schema.specs.Built.{numbered}
use Rattle.ob_schema.specs.Models.{field_at, field_named, fields_of, model_at}
use Rattle.ob_schema.specs.declared.info.FieldInfo.{FieldInfo}
use Rattle.ob_schema.specs.declared.info.ModelInfo.{ModelInfo}
use Rattle.ob_call.specs.Forms.{fields_at}
use Rattle.ob_rows.specs.Values.{field_of_name, is_settable, is_settable_name}

-- there is something at a place within
pub there_at : {X : Type 0} (xs : List X) (i : ℕ) → i < length xs → (x : X) × (slice_get xs i ≡ Some x)
there_at [] i lt = absurd (omega (arith, lt))
there_at (x ∷ xs) i lt = (get_or (x ∷ xs) i x, slice_get-get_or (x ∷ xs) i x lt)

-- a field that was found by its name is a named one
named_one : (info : ModelInfo) (name : List ℕ) (number : FieldNo) (f : FieldInfo) → Some number ≡ field_named info.fields name → numbered (fields_of info) number.0 ≡ Some f → numbered info.fields number.0 ≡ Some f
named_one info name number f named at =
    let range = named-range info.fields name number named in
    let place : suc (number.0 - 1) ≡ number.0 = omega arith in
    let (g, there) = there_at info.fields (number.0 - 1) (omega arith) in
    let own : numbered info.fields number.0 ≡ Some g = ap (numbered info.fields) (sym place) ∙ there in
    own ∙ sym (numbered-before info.fields info.hidden number.0 g own) ∙ at

-- what is tested of a field that was found by its name
pub tested_by_name : (test : FieldInfo → Bool) (models : List ModelInfo) (model : ModelNo) (name : List ℕ) (number : FieldNo) (f : FieldInfo) → IfSome (model_at models model) (λ info. Some number ≡ field_named info.fields name)
    → field_at models model number ≡ Some f → test f ≡ option_map_or test (field_of_name (fields_at models model) name) false
tested_by_name test models model name number f named at = by (model_at models model) named at where
  by : (o : Option ModelInfo) → IfSome o (λ info. Some number ≡ field_named info.fields name) → option_and_then (λ info. numbered (fields_of info) number.0) o ≡ Some f
      → test f ≡ option_map_or test (field_of_name (option_map_or (λ info. info.fields) o []) name) false
  by None named found = absurd cc
  by (Some info) named found =
      let own : numbered info.fields number.0 ≡ Some f = named_one info name number f named found in
      let there : option_and_then (λ (n : FieldNo). numbered info.fields n.0) (field_named info.fields name) ≡ Some f = ap (option_and_then (λ (n : FieldNo). numbered info.fields n.0)) (sym named) ∙ own in
      sym (ap (λ (o : Option FieldInfo). option_map_or test o false) there)

-- whether calls give values to it, and to the parents' rows behind it
pub settable_by_name : (models : List ModelInfo) (model : ModelNo) (name : List ℕ) (number : FieldNo) (f : FieldInfo) → IfSome (model_at models model) (λ info. Some number ≡ field_named info.fields name)
    → field_at models model number ≡ Some f → is_settable models f ≡ is_settable_name models (fields_at models model) name
settable_by_name models = tested_by_name (is_settable models) models
