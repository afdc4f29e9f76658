-- The forms of arguments that several calls share. A form is told by its fault: the steps
-- from a value down to where it breaks the form first, none where it is of the form.
use Rattle.std.specs.Prelude.{ℕ, ◌+◌, ◌&&◌, nat_le, List, [], ◌∷◌, Bool, is_some, if◌then◌else◌, Option, Some, None, option_and_then}
use Rattle.std.specs.Option.{option_map_or}
use Rattle.ob_base.specs.Limits.{max_id}
use Rattle.ob_base.specs.declared.id.FieldNo.{FieldNo}
use Rattle.ob_base.specs.declared.id.ModelNo.{ModelNo}
use Rattle.ob_base.specs.declared.place.PathStep.{PathStep}
use Rattle.ob_base.specs.declared.place.PathStep.TheVariants.{Item}
use Rattle.serde_json.specs.Data.{Data, number, array}
use Rattle.serde_json.specs.Find.{as_u64, as_number, as_str}
use Rattle.ob_codec.specs.Commands.{listed}
use Rattle.ob_schema.specs.Models.{field_named, model_at}
use Rattle.ob_schema.specs.declared.info.FieldInfo.{FieldInfo}
use Rattle.ob_schema.specs.declared.info.ModelInfo.{ModelInfo}

-- the place of the first item that a test refuses
abbrev pub first_item : (Data → Bool) → ℕ → List Data → Option (List PathStep)
first_item test n [] = None
first_item test n (d ∷ ds) = if test d then first_item test (n + 1) ds else Some (Item n ∷ [])

-- an id of 1 to 4,294,967,295
abbrev pub id_from : Data → Option ℕ
id_from d = option_and_then (λ n. if nat_le 1 n && nat_le n max_id then Some n else None) (option_and_then as_u64 (as_number d))

-- a list of ids, or one id
abbrev pub ids_fault : Data → Option (List PathStep)
ids_fault (number n) = if is_some (id_from (number n)) then None else Some []
ids_fault (array items) = first_item (λ d. is_some (id_from d)) 0 (listed items)
ids_fault _ = Some []

-- the number of the field that a text names
abbrev pub number_from : List FieldInfo → Data → Option FieldNo
number_from fields d = option_and_then (field_named fields) (as_str d)

-- a list of texts, each the name of one of these fields
abbrev pub names_fault : List FieldInfo → Data → Option (List PathStep)
names_fault fields (array items) = first_item (λ d. is_some (number_from fields d)) 0 (listed items)
names_fault fields _ = Some []

-- a list of texts
abbrev pub texts_fault : Data → Option (List PathStep)
texts_fault (array items) = first_item (λ d. is_some (as_str d)) 0 (listed items)
texts_fault _ = Some []

-- the fields of the model of a number, none where there is no such model
abbrev pub fields_at : List ModelInfo → ModelNo → List FieldInfo
fields_at models model = option_map_or (λ info. info.fields) (model_at models model) []
