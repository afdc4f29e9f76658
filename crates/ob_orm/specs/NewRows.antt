-- Rows that are made of given values, one behind another, each with rows of those of its parents that no given id names.
use Rattle.std.specs.Prelude.{◌==◌, ◌++◌, ℕ, List, [], ◌∷◌, map, Bool, true, false, if◌then◌else◌, is_some, Option, Some, None, option_and_then, option_map}
use Rattle.std.specs.List.{filter_map, flat_map}
use Rattle.std.specs.Map.{lookup}
use Rattle.std.specs.Option.{option_map_or, option_or}
use Rattle.ob_base.specs.declared.id.FieldNo.{FieldNo}
use Rattle.ob_base.specs.declared.id.ModelNo.{ModelNo}
use Rattle.ob_base.specs.declared.id.RecId.{RecId}
use Rattle.ob_base.specs.declared.value.Value.{Value}
use Rattle.ob_base.specs.declared.value.Value.TheVariants as value
use Rattle.ob_rows.specs.Author.{is_stamp, stamp}
use Rattle.ob_orm.specs.RowValues.{valued}
use Rattle.ob_rows.specs.declared.author.Author.{Author}
use Rattle.ob_schema.specs.Fields.{Column, plain_columns}
use Rattle.ob_schema.specs.Models.{field_at, model_at}
use Rattle.ob_schema.specs.Tables.{Tables, next_of}
use Rattle.ob_schema.specs.declared.info.ModelInfo.{ModelInfo}
use Rattle.ob_schema.specs.declared.info.Origin.{Origin}
use Rattle.ob_schema.specs.declared.info.Origin.TheVariants as origin
use Rattle.ob_schema.specs.declared.info.ParentInfo.{ParentInfo}
use Rattle.ob_tables.specs.After.{after}
use Rattle.ob_tables.specs.declared.edit.Edit.{Edit}
use Rattle.ob_tables.specs.declared.edit.Edit.TheVariants as edit

-- values by the numbers of a model's fields: its own and delegated ones
abbrev pub Values : Type 0
Values = List (FieldNo × Value)

-- the value that is given for a number
abbrev pub value_for : Values → ℕ → Option Value
value_for given number = lookup (λ field. field.0 == number) given

-- each value is set in a row
abbrev pub row_edits : ModelNo → Values → ℕ → List Edit
row_edits model values id = map (λ given. edit.Set (record { model = model; id = record { 0 = id }; field = given.0 }) given.1) values

-- the row that a value names, if it is one alone
abbrev pub row_named : Value → Option RecId
row_named (value.Ref id) = Some id
row_named _ = None

-- the row that a link names, where it is given by an id
abbrev pub linked : Values → FieldNo → Option RecId
linked given link = option_and_then row_named (value_for given link.0)

-- the parent's field for which a field of this origin stands, behind a link
abbrev pub field_behind_from : FieldNo → Origin → Option FieldNo
field_behind_from link (origin.Delegated at) = if at.link.0 == link.0 then Some at.field else None
field_behind_from link _ = None

-- the parents of a model
abbrev pub parents_of : List ModelInfo → ModelNo → List ParentInfo
parents_of models model = option_map_or (λ info. info.inherits) (model_at models model) []

module _ (models : List ModelInfo) where
  -- the parent's field for which a field of a model stands, behind a link
  abbrev pub field_behind : ModelNo → FieldNo → FieldNo → Option FieldNo
  field_behind model link number = option_and_then (λ field. field_behind_from link field.origin) (field_at models model number)

  -- the values that are given to fields of the parent behind a link, by the parent's numbers
  abbrev pub behind : ModelNo → FieldNo → Values → Values
  behind model link given = filter_map (λ one. option_map (λ field. (field, one.1)) (field_behind model link one.0)) given

-- what is begun of a row: the edits that make its parents so far, and what is given with the links to them
pub record Begun : Type 0 where
  pub edits : List Edit
  pub given : Values

-- the edits that make a row, with rows of its parents, and its id
pub record MadeRow : Type 0 where
  pub edits : List Edit
  pub id : ℕ

-- the edits that make several rows, and their ids
pub record MadeRows : Type 0 where
  pub edits : List Edit
  pub ids : List ℕ

module _ (models : List ModelInfo) (by : Author) where
  -- the value that a plain field gets in a row that is made or changed: what the author stamps, else what is given, else in a row that is made its default
  abbrev pub filled_value : Bool → Values → Column → Option Value
  filled_value made given column =
      if is_stamp made column.1.name then Some (stamp by column.1.name) else option_or (value_for given column.0) (if made then column.1.default else None)

  -- the values of the plain fields that get one
  abbrev pub filled : Bool → ModelNo → Values → Values
  filled made model given = option_map_or (λ info. flat_map (λ column. valued (record { 0 = column.0 }) (filled_value made given column)) (plain_columns info)) (model_at models model) []

  -- a row of a model is made of what is given, under its next id
  abbrev pub making : Tables → ModelNo → Values → Edit
  making tables model given = edit.Make model (record { 0 = next_of tables model }) (filled true model given)

  -- a parent whose link isn't given by an id is made, of what is given behind the link; then the link names it
  abbrev pub with_parent : Tables → ModelNo → Values → ParentInfo → Begun
  with_parent tables model given parent =
      if is_some (linked given parent.link) then record { edits = []; given = given } else record {
        edits = making tables parent.model (behind models model parent.link given) ∷ [];
        given = (parent.link, value.Ref (record { 0 = next_of tables parent.model })) ∷ given;
      }

  -- one parent behind another
  abbrev pub with_parents : Tables → ModelNo → Values → List ParentInfo → Begun
  with_parents tables model given [] = record { edits = []; given = given }
  with_parents tables model given (parent ∷ more) =
      let one = with_parent tables model given parent in
      let rest = with_parents (after models tables one.edits) model one.given more in
      record { edits = one.edits ++ rest.edits; given = rest.given }

  -- the values of a parent's row that a change of these gives it; where none are given it isn't changed
  abbrev pub changed_values : ModelNo → Values → Values
  changed_values model [] = []
  changed_values model given = filled false model given

  -- the values that are given behind a link that is given by an id are set in the row that it names
  abbrev pub parent_change : ModelNo → Values → ParentInfo → List Edit
  parent_change model given parent = option_map_or (λ id. row_edits parent.model (changed_values parent.model (behind models model parent.link given)) id.0) (linked given parent.link) []

  -- a row of these values: its parents that are made, itself, and then what it changes of the other parents
  abbrev pub made_row : Tables → ModelNo → Values → MadeRow
  made_row tables model given =
      let at = with_parents tables model given (parents_of models model) in
      let before = after models tables at.edits in record {
        edits = at.edits ++ making before model at.given ∷ flat_map (parent_change model given) (parents_of models model);
        id = next_of before model;
      }

  -- rows of these values, each over the tables that those before it left
  abbrev pub made_rows : Tables → ModelNo → List Values → MadeRows
  made_rows tables model [] = record { edits = []; ids = [] }
  made_rows tables model (given ∷ more) =
      let one = made_row tables model given in
      let rest = made_rows (after models tables one.edits) model more in
      record { edits = one.edits ++ rest.edits; ids = one.id ∷ rest.ids }
