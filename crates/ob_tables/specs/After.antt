-- What edits make of tables, without any test.
use Rattle.std.specs.Prelude.{◌+◌, ◌==◌, ℕ, List, [], ◌∷◌, map, max, unwrap_or}
use Rattle.std.specs.Option.{option_map_or}
use Rattle.std.specs.Ordering.{nat_cmp}
use Rattle.std.specs.FinMap as finite
use Rattle.std.specs.Map.{lookup}
use Rattle.ob_base.specs.declared.id.FieldNo.{FieldNo}
use Rattle.ob_base.specs.declared.id.ModelNo.{ModelNo}
use Rattle.ob_base.specs.declared.id.RecId.{RecId}
use Rattle.ob_base.specs.declared.value.Value.{Value}
use Rattle.ob_definition.specs.Values.{initial_value}
use Rattle.ob_schema.specs.declared.info.ModelInfo.{ModelInfo}
use Rattle.ob_schema.specs.Fields.{Column, plain_columns}
use Rattle.ob_schema.specs.Models.{model_at}
use Rattle.ob_tables.specs.declared.edit.Edit.{Edit}
use Rattle.ob_tables.specs.declared.edit.Edit.TheVariants as edit
use Rattle.ob_schema.specs.Tables.{PlainRow, Tables, key_of, next_of, row_at}

-- the value that is given for a field, by its number
abbrev pub given_for : List (FieldNo × Value) → Column → Value
given_for values column = unwrap_or (lookup (λ field. field.0 == column.0) values) (initial_value column.1.field_type)

-- a row of these values: one for each plain kept field of the model
abbrev pub row_of : ModelInfo → List (FieldNo × Value) → PlainRow
row_of info values = finite.from_entries {R = nat_cmp} (map (λ column. (column.0, given_for values column)) (plain_columns info))

module _ (models : List ModelInfo) where
  -- a row is made, or made anew; the next id comes to stand above it
  abbrev pub with_row : ModelNo → RecId → PlainRow → Tables → Tables
  with_row model id row tables = record {
    rows = finite.insert tables.rows (key_of model id) row;
    next_ids = finite.insert tables.next_ids model.0 (max (next_of tables model) (id.0 + 1));
  }

  -- what one edit makes of tables; of a row that isn't there nothing
  abbrev pub edited : Tables → Edit → Tables
  edited tables (edit.Make model id values) = option_map_or (λ info. with_row model id (row_of info values) tables) (model_at models model) tables
  edited tables (edit.Set cell v) =
      option_map_or (λ row. record tables { rows = finite.insert tables.rows (key_of cell.model cell.id) (finite.insert row cell.field.0 v) }) (row_at tables cell.model cell.id) tables
  edited tables (edit.Gone model id) = record tables { rows = finite.remove tables.rows (key_of model id) }

  -- and edits in their order
  abbrev pub after : Tables → List Edit → Tables
  after tables [] = tables
  after tables (one ∷ edits) = after (edited tables one) edits

-- the same rows, with another next id for a model
abbrev pub with_next_id : ModelNo → ℕ → Tables → Tables
with_next_id model next tables = record tables { next_ids = finite.insert tables.next_ids model.0 next }
