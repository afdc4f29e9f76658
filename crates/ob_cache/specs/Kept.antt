-- When the rows of a keeper are those of tables.
use Rattle.std.specs.Prelude.{◌≡◌, List, map, filter, Option, option_map, IfSome, None}
use Rattle.std.specs.List.{flat_map}
use Rattle.std.specs.Result.{result_unwrap_or}
use Rattle.ob_base.specs.declared.id.ModelNo.{ModelNo}
use Rattle.ob_base.specs.declared.id.RecId.{RecId}
use Rattle.ob_base.specs.declared.value.Value.{Value}
use Rattle.ob_base.specs.declared.value.Value.TheVariants as value
use Rattle.ob_codec.specs.RowForm.{row_form}
use Rattle.ob_io.specs.declared.store.Link.{Link}
use Rattle.ob_io.specs.declared.store.KeptRow.{KeptRow}
use Rattle.ob_io.specs.Store.{Store, next_of as kept_next_of, row_at as kept_row_at}
use Rattle.ob_schema.specs.Fields.{Column, columns, is_kept, kept_fields, plain_columns}
use Rattle.ob_schema.specs.Models.{model_at}
use Rattle.ob_schema.specs.Plain.{targets_of}
use Rattle.ob_schema.specs.Tables.{PlainRow, Tables, kept_in, next_of, row_at}
use Rattle.ob_schema.specs.Val.{val}
use Rattle.ob_schema.specs.declared.info.ModelInfo.{ModelInfo}

-- the links by a field: one to each row that its value names
abbrev pub links_by : Column → Value → List Link
links_by column v = map (λ id. record { field = record { 0 = column.0 }; target = id }) (targets_of v)

-- the links of a row: those by each plain field that it keeps, rising by field, then target
abbrev pub links_of : ModelInfo → PlainRow → List Link
links_of info row = flat_map (λ column. links_by column (kept_in row (record { 0 = column.0 }))) (plain_columns info)

-- the fields of a row's kept form with their numbers
abbrev pub kept_columns : ModelInfo → List Column
kept_columns info = filter (λ column. is_kept column.1) (columns info)

module _ (models : List ModelInfo) (tables : Tables) where
  -- the value from scratch of a field of a row; sound tables have one for each
  abbrev pub kept_value : ModelNo → RecId → Column → Value
  kept_value model id column = result_unwrap_or (val models tables (record { model = model; id = id; field = record { 0 = column.0 } })) value.Nil

  -- a row as it is kept: the values of its kept fields, and its links
  abbrev pub kept_row : ModelNo → ModelInfo → RecId → PlainRow → KeptRow
  kept_row model info id row = record { id = id; body = row_form (kept_fields info) (map (kept_value model id) (kept_columns info)); links = links_of info row }

  -- the keeper has a row of the model exactly where the tables have one, in its kept form; and its next id is theirs
  pub record KeepsModel (store : Store) (model : ModelNo) (info : ModelInfo) : Type 0 where
    pub rows : (id : RecId) → kept_row_at store model id ≡ option_map (kept_row model info id) (row_at tables model id)
    pub next : kept_next_of store model ≡ next_of tables model

  -- the keeper's rows of each model are those of the tables
  abbrev pub Kept : Store → Type 0
  Kept store = (model : ModelNo) → IfSome (model_at models model) (KeepsModel store model)

-- rows and next ids under other numbers than the models' stay as they are, where they are told
pub record OthersStay (models : List ModelInfo) (before now : Option Store) : Type 0 where
  pub rows : (model : ModelNo) (id : RecId) → model_at models model ≡ None → option_map (λ store. kept_row_at store model id) now ≡ option_map (λ store. kept_row_at store model id) before
  pub next : (model : ModelNo) → model_at models model ≡ None → option_map (λ store. kept_next_of store model) now ≡ option_map (λ store. kept_next_of store model) before
