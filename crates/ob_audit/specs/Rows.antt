-- What the rows of a keeper say: their values, and the tables of the plain ones.
use Rattle.std.specs.Prelude.{◌≡◌, ◌≤◌, ◌⊎◌, ◌==◌, ℕ, List, map, filter, zip, Option, Some, None, IsSomeAnd, if◌then◌else◌, true}
use Rattle.std.specs.List.{filter_map, flat_map}
use Rattle.std.specs.Map.{lookup}
use Rattle.std.specs.Ordering.{nat_cmp}
use Rattle.std.specs.FinMap as finite
use Rattle.std.specs.declared.cmp.Ordering.TheVariants.{Less}
use Rattle.ob_base.specs.BrokenOrder.{cell_order}
use Rattle.ob_base.specs.declared.id.Cell.{Cell}
use Rattle.ob_base.specs.declared.id.FieldNo.{FieldNo}
use Rattle.ob_base.specs.declared.id.ModelNo.{ModelNo}
use Rattle.ob_base.specs.declared.id.RecId.{RecId}
use Rattle.ob_base.specs.declared.value.Value.{Value}
use Rattle.ob_codec.specs.RowForm.{HoldAll, row_form}
use Rattle.ob_io.specs.declared.store.KeptRow.{KeptRow}
use Rattle.ob_io.specs.declared.store.Link.{Link}
use Rattle.ob_io.specs.Store.{Store, next_of as kept_next_of, row_at as kept_row_at}
use Rattle.ob_schema.specs.Fields.{Column, columns, is_kept, is_plain_kept, kept_fields, plain_columns}
use Rattle.ob_schema.specs.Models.{field_at, is_id_from, model_at}
use Rattle.ob_schema.specs.Plain.{targets_of}
use Rattle.ob_schema.specs.Tables.{Fits, PlainRow, Tables, kept_in, next_of, row_at}
use Rattle.ob_schema.specs.declared.info.ModelInfo.{ModelInfo}

-- the links by a field: one to each row that its value names
abbrev pub links_by : Column → Value → List Link
links_by column v = map (λ id. record { field = record { 0 = column.0 }; target = id }) (targets_of v)

-- the links of a row: those by each plain field that it keeps, rising by field, then target
abbrev pub links_of : ModelInfo → PlainRow → List Link
links_of info row = flat_map (λ column. links_by column (kept_in row (record { 0 = column.0 }))) (plain_columns info)

-- the fields of a row's kept form with their numbers
abbrev pub kept_columns : ModelInfo → List Column
kept_columns info = filter (λ column. is_kept column.1) (columns info)

-- the values of a row's kept fields, each with its field
abbrev pub kept_entries : ModelInfo → List Value → List (Column × Value)
kept_entries info values = zip (kept_columns info) values

-- the value that is kept for a field
abbrev pub kept_for : ModelInfo → List Value → FieldNo → Option Value
kept_for info values field = lookup (λ column. column.0 == field.0) (kept_entries info values)

-- the value that a row keeps for a field, if that is a plain one
abbrev pub plain_entry : Column × Value → Option (ℕ × Value)
plain_entry given = if is_plain_kept given.0.1 then Some (given.0.0, given.1) else None

-- the plain values among those of a row's kept fields
abbrev pub plain_row : ModelInfo → List Value → PlainRow
plain_row info values = finite.from_entries {R = nat_cmp} (filter_map plain_entry (kept_entries info values))

-- a kept row can be read as these values of its kept fields: its body is theirs, and its links are those of its plain values
pub record IsReadAs (info : ModelInfo) (kept : KeptRow) (values : List Value) : Type 0 where
  pub hold : HoldAll (kept_fields info) values
  pub body : kept.body ≡ row_form (kept_fields info) values
  pub links : kept.links ≡ links_of info (plain_row info values)

-- a kept row of a model can't be read: its id isn't below the next one, or it is no form of a row
abbrev pub IsUnreadable : Store → ModelNo → ModelInfo → RecId → KeptRow → Type 0
IsUnreadable store model info id kept = (kept_next_of store model ≤ id.0) ⊎ ((values : List Value) → IsReadAs info kept values → ⊥)

-- the first of the cells that show something: by model, then id, then field
pub record IsFirstTo (Shows : Cell → Type 0) (cell : Cell) : Type 0 where
  pub shows : Shows cell
  pub none_before : (other : Cell) → Shows other → cell_order other cell ≡ Less → ⊥

module _ (models : List ModelInfo) (store : Store) where
  -- the rows of a model that are kept are those of the tables, by their plain values alone; and so is the next id
  pub record HasRowsOf (tables : Tables) (model : ModelNo) (info : ModelInfo) : Type 0 where
    pub there : (id : RecId) (kept : KeptRow) → kept_row_at store model id ≡ Some kept → (values : List Value) × IsReadAs info kept values × (row_at tables model id ≡ Some (plain_row info values))
    pub none : (id : RecId) → kept_row_at store model id ≡ None → row_at tables model id ≡ None
    pub next : kept_next_of store model ≡ next_of tables model

  -- the tables of the plain values that are kept
  pub record ArePlain (tables : Tables) : Type 0 where
    pub fits : Fits models tables
    pub rows : (model : ModelNo) → IsSomeAnd (model_at models model) (HasRowsOf tables model) ⊎ (model_at models model ≡ None)

  -- the field `id` of a row that can't be read, or of id 0 where the next id is 0
  abbrev pub ShowsUnread : Cell → Type 0
  ShowsUnread cell = IsSomeAnd (field_at models cell.model cell.field) (λ field. is_id_from field.origin ≡ true)
      × IsSomeAnd (model_at models cell.model) (λ info. IsSomeAnd (kept_row_at store cell.model cell.id) (IsUnreadable store cell.model info cell.id) ⊎ ((cell.id.0 ≡ 0) × (kept_next_of store cell.model ≡ 0)))

  -- a row keeps this value for a cell
  pub record Keeps (cell : Cell) (v : Value) : Type 0 where
    pub info : ModelInfo
    pub info_is : model_at models cell.model ≡ Some info
    pub kept : KeptRow
    pub kept_is : kept_row_at store cell.model cell.id ≡ Some kept
    pub values : List Value
    pub read_as : IsReadAs info kept values
    pub value_is : kept_for info values cell.field ≡ Some v
