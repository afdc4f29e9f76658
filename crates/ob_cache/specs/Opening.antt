-- What a cell shows of a store that no sound tables have the rows of, and which cell is told.
use Rattle.std.specs.Prelude.{◌≡◌, ◌≢◌, ◌≤◌, ◌⊎◌, ◌==◌, ℕ, List, ⊤, zip, Option, Some, None, IfSome, IsSomeAnd, if◌then◌else◌, true, Ok}
use Rattle.std.specs.List.{filter_map}
use Rattle.std.specs.Map.{lookup}
use Rattle.std.specs.Ordering.{nat_cmp}
use Rattle.std.specs.FinMap as finite
use Rattle.std.specs.declared.cmp.Ordering.TheVariants.{Less}
use Rattle.ob_base.specs.BrokenOrder.{cell_order}
use Rattle.ob_base.specs.declared.id.Cell.{Cell}
use Rattle.ob_base.specs.declared.id.FieldNo.{FieldNo}
use Rattle.ob_base.specs.declared.id.ModelNo.{ModelNo}
use Rattle.ob_base.specs.declared.id.RecId.{RecId}
use Rattle.ob_base.specs.declared.refusal.BrokenKind.{BrokenKind}
use Rattle.ob_base.specs.declared.value.Value.{Value}
use Rattle.ob_cache.specs.Kept.{Kept, kept_columns, links_of}
use Rattle.ob_cache.specs.declared.fault.OpenFault.{OpenFault}
use Rattle.ob_cache.specs.declared.fault.OpenFault.TheVariants as fault
use Rattle.ob_codec.specs.RowForm.{HoldAll, row_form}
use Rattle.ob_io.specs.declared.store.KeptRow.{KeptRow}
use Rattle.ob_io.specs.Store.{Store, next_of as kept_next_of, row_at as kept_row_at}
use Rattle.ob_schema.specs.Broken.{AreSound, BreaksAs}
use Rattle.ob_schema.specs.Fields.{Column, is_plain_kept, kept_fields}
use Rattle.ob_schema.specs.Models.{HasField, field_at, is_computed_from, is_id_from, model_at}
use Rattle.ob_schema.specs.Tables.{Fits, PlainRow, Tables, next_of, row_at}
use Rattle.ob_schema.specs.Val.{val}
use Rattle.ob_schema.specs.declared.info.ModelInfo.{ModelInfo}

-- the values of a row's kept fields, each with its field
abbrev pub kept_entries : ModelInfo → List Value → List (Column × Value)
kept_entries info values = zip (kept_columns info) values

-- the value that is kept for a field
abbrev pub kept_for : ModelInfo → List Value → FieldNo → Option Value
kept_for info values field = lookup (λ column. column.0 == field.0) (kept_entries info values)

-- the value that a row keeps for a field, if that is a plain one
abbrev pub plain_entry : Column × Value → Option (ℕ × Value)
plain_entry given = if is_plain_kept given.0.1 then Some (given.0.0, given.1) else None

-- the plain values among those of a row's kept fields
abbrev pub plain_row : ModelInfo → List Value → PlainRow
plain_row info values = finite.from_entries {R = nat_cmp} (filter_map plain_entry (kept_entries info values))

-- a kept row can be read as these values of its kept fields: its body is theirs, and its links are those of its plain values
pub record IsReadAs (info : ModelInfo) (kept : KeptRow) (values : List Value) : Type 0 where
  pub hold : HoldAll (kept_fields info) values
  pub body : kept.body ≡ row_form (kept_fields info) values
  pub links : kept.links ≡ links_of info (plain_row info values)

-- a kept row of a model can't be read: its id isn't below the next one, or it is no form of a row
abbrev pub IsUnreadable : Store → ModelNo → ModelInfo → RecId → KeptRow → Type 0
IsUnreadable store model info id kept = (kept_next_of store model ≤ id.0) ⊎ ((values : List Value) → IsReadAs info kept values → ⊥)

-- the first of the cells that show something: by model, then id, then field
pub record IsFirstTo (Shows : Cell → Type 0) (cell : Cell) : Type 0 where
  pub shows : Shows cell
  pub none_before : (other : Cell) → Shows other → cell_order other cell ≡ Less → ⊥

module _ (models : List ModelInfo) (store : Store) where
  -- the rows of a model that are kept are those of the tables, by their plain values alone; and so is the next id
  pub record HasRowsOf (tables : Tables) (model : ModelNo) (info : ModelInfo) : Type 0 where
    pub there : (id : RecId) (kept : KeptRow) → kept_row_at store model id ≡ Some kept → (values : List Value) × IsReadAs info kept values × (row_at tables model id ≡ Some (plain_row info values))
    pub none : (id : RecId) → kept_row_at store model id ≡ None → row_at tables model id ≡ None
    pub next : kept_next_of store model ≡ next_of tables model

  -- the tables of the plain values that are kept
  pub record ArePlain (tables : Tables) : Type 0 where
    pub fits : Fits models tables
    pub rows : (model : ModelNo) → IsSomeAnd (model_at models model) (HasRowsOf tables model) ⊎ (model_at models model ≡ None)

  -- the field `id` of a row that can't be read, or of id 0 where the next id is 0
  abbrev pub ShowsUnread : Cell → Type 0
  ShowsUnread cell = IsSomeAnd (field_at models cell.model cell.field) (λ field. is_id_from field.origin ≡ true)
      × IsSomeAnd (model_at models cell.model) (λ info. IsSomeAnd (kept_row_at store cell.model cell.id) (IsUnreadable store cell.model info cell.id) ⊎ ((cell.id.0 ≡ 0) × (kept_next_of store cell.model ≡ 0)))

  -- a cell that the plain values break
  abbrev pub ShowsBroken : Cell → Type 0
  ShowsBroken cell = (tables : Tables) × ArePlain tables × ((kind : BrokenKind) × BreaksAs models tables kind cell)

  -- a stored computed cell that is kept with another value than its own from scratch
  pub record ShowsOther (cell : Cell) : Type 0 where
    pub tables : Tables
    pub plain : ArePlain tables
    pub sound : AreSound models tables
    pub info : ModelInfo
    pub info_is : model_at models cell.model ≡ Some info
    pub kept : KeptRow
    pub kept_is : kept_row_at store cell.model cell.id ≡ Some kept
    pub values : List Value
    pub read_as : IsReadAs info kept values
    pub other : IsSomeAnd (kept_for info values cell.field) (λ v. val models tables cell ≢ Ok v)
    pub computed : IsSomeAnd (field_at models cell.model cell.field) (λ field. is_computed_from field.origin ≡ true)

  -- no sound tables have these rows, and the cell shows it
  pub record IsInconsistent (cell : Cell) : Type 0 where
    pub none : (tables : Tables) → AreSound models tables → Kept models tables store → ⊥
    pub shown : ShowsUnread cell ⊎ (ShowsBroken cell ⊎ ShowsOther cell)

  -- it is the first to show it: of the rows that can't be read; where all can, of what their values break; where they break nothing, of the stored cells
  pub record IsFirstInconsistent (cell : Cell) : Type 0 where
    pub inconsistent : IsInconsistent cell
    pub first : IsFirstTo ShowsUnread cell ⊎ (IsFirstTo ShowsBroken cell ⊎ IsFirstTo ShowsOther cell)

-- why a store isn't opened: the keeper failed, its rows are those of no sound tables, which the first cell shows, or memory is wanting
abbrev pub StopsOpening : List ModelInfo → Option Store → Type 0 → OpenFault → Type 0
StopsOpening models kept rose fault.Keeper = rose
StopsOpening models kept rose (fault.Inconsistent cell) = IfSome kept (λ store. IsFirstInconsistent models store cell)
StopsOpening models kept rose fault.NoMemory = ⊤

-- a cell that is told to show it is one of the models'
abbrev pub ShowsField : List ModelInfo → OpenFault → Type 0
ShowsField models (fault.Inconsistent cell) = HasField models cell.model cell.field
ShowsField models _ = ⊤
