-- Tables: the plain values of rows, and a next id for each model. Tables that answer alike are equal.
use Rattle.std.specs.Prelude.{◌≡◌, ◌↔◌, ◌<◌, ◌≤◌, ◌==◌, ℕ, List, map, filter, Option, IfSome, IsSome, IsSomeAnd, option_and_then, unwrap_or}
use Rattle.std.specs.List.{enumerate_from}
use Rattle.std.specs.Ordering.{nat_cmp}
use Rattle.std.specs.FinMap as finite
use Rattle.ob_base.specs.declared.id.Cell.{Cell}
use Rattle.ob_base.specs.declared.id.FieldNo.{FieldNo}
use Rattle.ob_base.specs.declared.id.ModelNo.{ModelNo}
use Rattle.ob_base.specs.declared.id.RecId.{RecId}
use Rattle.ob_base.specs.declared.value.Value.{Value}
use Rattle.ob_base.specs.declared.value.Value.TheVariants as value
use Rattle.ob_base.specs.declared.id.RowKey.{RowKey}
use Rattle.ob_base.specs.Ids.{row_key_cmp}
use Rattle.ob_schema.specs.declared.info.ModelInfo.{ModelInfo}
use Rattle.ob_schema.specs.Fields.{plain_columns}
use Rattle.ob_schema.specs.Models.{HasModel, field_at, model_at}
use Rattle.ob_schema.specs.Fields.{IsGivable}

-- the plain values of a row, by the numbers of their fields
abbrev pub PlainRow : Type 0
PlainRow = finite.FinMap nat_cmp Value

-- rows by model and id, and the next id of each model
pub record Tables : Type 0 where
  pub rows : finite.FinMap row_key_cmp PlainRow
  pub next_ids : finite.FinMap nat_cmp ℕ

-- tables with the models of the registry over which they stand
pub record Standing : Type 0 where
  pub models : List ModelInfo
  pub tables : Tables

-- no rows, and the next id 1 for each model
abbrev pub empty_tables : List ModelInfo → Tables
empty_tables models = record { rows = finite.empty; next_ids = finite.from_entries {R = nat_cmp} (map (λ place. (place.0, 1)) (enumerate_from 1 models)) }

abbrev pub key_of : ModelNo → RecId → RowKey
key_of model id = record { model = model; id = id }

-- the row of a model and an id, where there is one
abbrev pub row_at : Tables → ModelNo → RecId → Option PlainRow
row_at tables model id = finite.get tables.rows (key_of model id)

-- the rows of a model with their ids, rising
abbrev pub rows_in : Tables → ModelNo → List (RecId × PlainRow)
rows_in tables model = map (λ entry. (entry.0.id, entry.1)) (filter (λ entry. entry.0.model.0 == model.0) (finite.entries tables.rows))

-- their ids
abbrev pub ids_in : Tables → ModelNo → List RecId
ids_in tables model = map (λ entry. entry.0) (rows_in tables model)

-- the id that the model's next row takes
abbrev pub next_of : Tables → ModelNo → ℕ
next_of tables model = unwrap_or (finite.get tables.next_ids model.0) 1

-- what the row of a cell keeps for its field, where it keeps anything
abbrev pub kept_at : Tables → Cell → Option Value
kept_at tables cell = option_and_then (λ row. finite.get row cell.field.0) (row_at tables cell.model cell.id)

-- what a row keeps for a field; unset where it keeps nothing
abbrev pub kept_in : PlainRow → FieldNo → Value
kept_in row field = unwrap_or (finite.get row field.0) value.Nil

-- a row keeps a value for each plain kept field of its model, and for no other
abbrev pub IsRowOf : ModelInfo → PlainRow → Type 0
IsRowOf info row = finite.keys row ≡ map (λ column. column.0) (plain_columns info)

-- tables of a registry: a next id above all ids for each model and no other, and rows of its models alone, with values of their fields
pub record Fits (models : List ModelInfo) (tables : Tables) : Type 0 where
  pub next : (model : ModelNo) → IsSome (finite.get tables.next_ids model.0) ↔ HasModel models model
  pub rows : (model : ModelNo) (id : RecId) → IfSome (row_at tables model id) (λ row. IsSomeAnd (model_at models model) (λ info. IsRowOf info row))
  pub values : (model : ModelNo) (id : RecId) (field : FieldNo) → IfSome (row_at tables model id) (λ row. IfSome (finite.get row field.0) (λ v. IsSomeAnd (field_at models model field) (λ info. IsGivable info v)))
  pub low : (model : ModelNo) → 1 ≤ next_of tables model
  pub above : (model : ModelNo) (id : RecId) → IsSome (row_at tables model id) → id.0 < next_of tables model
