-- The form of an object of values for fields of a model, and to which fields calls never give values.
use Rattle.std.specs.Prelude.{ℕ, ◌&&◌, ◌||◌, List, [], ◌∷◌, Bool, false, not, if◌then◌else◌, Option, Some, None, option_and_then}
use Rattle.std.specs.Option.{option_map_or}
use Rattle.ob_base.specs.declared.place.PathStep.{PathStep}
use Rattle.ob_base.specs.declared.place.PathStep.TheVariants.{Key}
use Rattle.serde_json.specs.Data.{Data, object}
use Rattle.ob_definition.specs.Types.{is_list}
use Rattle.ob_schema.specs.Fields.{is_plain_kept}
use Rattle.ob_schema.specs.Built.{numbered}
use Rattle.ob_schema.specs.Models.{field_at, field_named, is_computed_from, is_id_from}
use Rattle.ob_schema.specs.declared.info.FieldInfo.{FieldInfo}
use Rattle.ob_schema.specs.declared.info.ModelInfo.{ModelInfo}
use Rattle.ob_schema.specs.declared.info.Origin.{Origin}
use Rattle.ob_schema.specs.declared.info.Origin.TheVariants as origin
use Rattle.ob_call.specs.Arguments.{entries}

-- the field of a name
abbrev pub field_of_name : List FieldInfo → List ℕ → Option FieldInfo
field_of_name fields name = option_and_then (λ number. numbered fields number.0) (field_named fields name)

-- whether calls give values to an own field so far: it is plain, no list of rows, and not managed
abbrev pub is_free : FieldInfo → Bool
is_free field = is_plain_kept field && not (is_list field.field_type || field.managed)

-- the place of the first key that a test refuses
abbrev pub first_key : (List ℕ → Bool) → List (List ℕ × Data) → Option (List PathStep)
first_key test [] = None
first_key test (e ∷ es) = if test e.0 then first_key test es else Some (Key e.0 ∷ [])

-- With a row its parents' rows are made or changed: their fields are given too.
module _ (models : List ModelInfo) where
  -- whether calls give a value to a field of this origin: of a delegated one the parent's field is free and isn't fixed, another one is free itself
  abbrev pub is_settable_from : Origin → FieldInfo → Bool
  is_settable_from (origin.Delegated at) field = option_map_or (λ own. is_free own && not own.fixed) (field_at models at.model at.field) false
  is_settable_from _ field = is_free field

  abbrev pub is_settable : FieldInfo → Bool
  is_settable field = is_settable_from field.origin field

  -- whether calls give a value to the field of this name
  abbrev pub is_settable_name : List FieldInfo → List ℕ → Bool
  is_settable_name fields name = option_map_or is_settable (field_of_name fields name) false

  -- an object of values, each for one of these fields that calls give
  abbrev pub new_values_fault : List FieldInfo → Data → Option (List PathStep)
  new_values_fault fields (object members) = first_key (is_settable_name fields) (entries members)
  new_values_fault fields _ = Some []

  -- an expression gives the value; of a delegated field that of the parent's field
  abbrev pub is_computed_at : Origin → Bool
  is_computed_at (origin.Delegated at) = option_map_or (λ field. is_computed_from field.origin) (field_at models at.model at.field) false
  is_computed_at own = is_computed_from own

  -- calls never give the value
  abbrev pub is_readonly : FieldInfo → Bool
  is_readonly field = is_id_from field.origin || is_computed_at field.origin || field.managed
