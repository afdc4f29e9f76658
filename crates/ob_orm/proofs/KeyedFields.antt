-- The fields that the keys of an object name, key by key.
use Rattle.std.proofs.Common.{◌≡◌, ◌∙◌, ℕ, true, List, [], ◌∷◌, ◌++◌, Option, Some, None, is_some, string_bytes, String, Global, refl, sym, ap}
use Rattle.std.specs.Prelude.{IfSome}
use Rattle.std.specs.List.{cons_option, filter_map}
use Rattle.std.specs.Map.{keys_of}
use Rattle.std.specs.Option.{option_map_or}
use Rattle.serde_json.proofs.Views.{Entry}
use Rattle.serde_json.specs.View.{members_view}
use Rattle.ob_base.specs.declared.id.FieldNo.{FieldNo}
use Rattle.ob_base.specs.declared.id.ModelNo.{ModelNo}
use Rattle.ob_call.specs.Forms.{fields_at}
use Rattle.ob_orm.specs.GivenValues.{keyed_fields}
use Rattle.ob_schema.specs.Models.{HasModel, field_named, model_at}
use Rattle.ob_schema.specs.declared.info.FieldInfo.{FieldInfo}
use Rattle.ob_schema.specs.declared.info.ModelInfo.{ModelInfo}

-- the fields that keys name
abbrev pub named_by : List FieldInfo → List (String Global) → List FieldNo
named_by fields keys = filter_map (λ key. field_named fields (string_bytes key)) keys

-- those of a map are those of the object
pub keyed-entries : (fields : List FieldInfo) (es : List Entry) → keyed_fields fields (members_view es) ≡ named_by fields (keys_of es)
keyed-entries fields [] = refl
keyed-entries fields (e ∷ es) = ap (cons_option (field_named fields (string_bytes e.0))) (keyed-entries fields es)

-- the field of a name, among those of the model
pub field_found : (models : List ModelInfo) (model : ModelNo) (name : List ℕ) (r : Option FieldNo) → HasModel models model → IfSome (model_at models model) (λ info. r ≡ field_named info.fields name)
    → r ≡ field_named (fields_at models model) name
field_found models model name r there found = by (model_at models model) there found where
  by : (o : Option ModelInfo) → is_some o ≡ true → IfSome o (λ info. r ≡ field_named info.fields name) → r ≡ field_named (option_map_or (λ info. info.fields) o []) name
  by None there found = absurd cc
  by (Some info) there found = found

pub keyed-passed : (fields : List FieldInfo) (so_far : List FieldNo) (key : String Global) (more : List (String Global)) (all : List FieldNo) → field_named fields (string_bytes key) ≡ None
    → so_far ++ named_by fields (key ∷ more) ≡ all → so_far ++ named_by fields more ≡ all
keyed-passed fields so_far key more all named are = ap (λ (o : Option FieldNo). so_far ++ cons_option o (named_by fields more)) (sym named) ∙ are
