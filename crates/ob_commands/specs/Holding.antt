-- Which creates and writes are carried out here: those whose values name a field that ob_orm gives no value.
use Rattle.std.specs.Prelude.{ℕ, List, Bool, false, codes, not, slice_get, Option, None}
use Rattle.std.specs.List.{list_any}
use Rattle.std.specs.Option.{option_map_or, option_or}
use Rattle.ob_call.specs.Arguments.{entries}
use Rattle.ob_codec.specs.Commands.{listed}
use Rattle.ob_rows.specs.Values.{field_of_name, is_settable}
use Rattle.ob_schema.specs.declared.info.FieldInfo.{FieldInfo}
use Rattle.ob_schema.specs.declared.info.ModelInfo.{ModelInfo}
use Rattle.serde_json.specs.Data.{Data, array, object}
use Rattle.serde_json.specs.Find.{get}

module _ (models : List ModelInfo) (fields : List FieldInfo) where
  -- a text is the name of a field, and that isn't set by calls which are told edit by edit
  abbrev pub is_other_name : List ℕ → Bool
  is_other_name name = option_map_or (λ field. not (is_settable models field)) (field_of_name fields name) false

  -- an object of values names such a field
  abbrev pub names_other : Data → Bool
  names_other (object members) = list_any (λ e. is_other_name e.0) (entries members)
  names_other _ = false

  -- one of several objects does, or the one
  abbrev pub name_others : Data → Bool
  name_others (array items) = list_any names_other (listed items)
  name_others d = names_other d

-- the item of a list at a position
abbrev pub item_at : ℕ → Data → Option Data
item_at position (array items) = slice_get (listed items) position
item_at position _ = None

-- the values of a call: its argument at a position, or the one by the name `vals`
abbrev pub vals_of : ℕ → (args kw : Data) → Option Data
vals_of position args kw = option_or (item_at position args) (get (codes "vals") kw)

-- they name such a field
abbrev pub gives_others : List ModelInfo → List FieldInfo → ℕ → (args kw : Data) → Bool
gives_others models fields position args kw = option_map_or (name_others models fields) (vals_of position args kw) false
