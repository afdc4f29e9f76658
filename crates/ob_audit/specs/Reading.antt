-- Private: what is read of a kept row, value by value.
use Rattle.std.specs.Prelude.{◌≡◌, ◌≤◌, ◌<◌, ◌^◌, ◌⊎◌, ◌++◌, ◌∷◌, ⊤, ℕ, List, [], zip, map, filter, Option, Some, None, IfSome, IsSomeAnd, true, if◌then◌else◌}
use Rattle.std.specs.FinMap as finite
use Rattle.std.specs.List.{AllByRecursion, enumerate_from, filter_map, flat_map}
use Rattle.std.specs.Option.{option_map_or}
use Rattle.std.specs.declared.cmp.Ordering.TheVariants.{Less}
use Rattle.ob_base.specs.BrokenOrder.{cell_order}
use Rattle.ob_base.specs.declared.id.Cell.{Cell}
use Rattle.ob_base.specs.declared.id.FieldNo.{FieldNo}
use Rattle.ob_base.specs.declared.id.ModelNo.{ModelNo}
use Rattle.ob_base.specs.declared.id.RecId.{RecId}
use Rattle.ob_base.specs.declared.value.Value.{Value}
use Rattle.ob_audit.specs.Rows.{links_by}
use Rattle.ob_audit.specs.Report.{is_stored}
use Rattle.ob_audit.specs.Rows.{IsFirstTo, IsReadAs, Keeps, ShowsUnread}
use Rattle.ob_audit.specs.declared.fault.ReadingFault.{ReadingFault}
use Rattle.ob_audit.specs.declared.fault.ReadingFault.TheVariants as reading_fault
use Rattle.ob_audit.specs.declared.kept_rows.ReadRows.{ReadRows}
use Rattle.ob_io.specs.declared.keeper.KeepFault.{KeepFault}
use Rattle.ob_io.specs.declared.keeper.KeepFault.TheVariants as keep_fault
use Rattle.ob_io.specs.Store.{RowsNamed, Store, next_of as kept_next_of, row_at as kept_row_at, rows_after}
use Rattle.ob_io.specs.declared.store.KeptRow.{KeptRow}
use Rattle.ob_io.specs.declared.store.Link.{Link}
use Rattle.ob_schema.specs.Fields.{Column, Holds, is_kept, is_plain_kept}
use Rattle.ob_schema.specs.Models.{FieldHas, HasModel, field_at, is_id_from, model_at}
use Rattle.ob_schema.specs.Tables.{Tables, next_of}
use Rattle.ob_schema.specs.declared.info.FieldInfo.{FieldInfo}
use Rattle.ob_schema.specs.declared.info.ModelInfo.{ModelInfo}
use Rattle.ob_tables.specs.declared.edit.Edit.{Edit}
use Rattle.ob_tables.specs.declared.edit.Edit.TheVariants as edit

-- why rows aren't read whose keeper fails
abbrev pub reading_fault_of : KeepFault → ReadingFault
reading_fault_of keep_fault.Failed = reading_fault.Keeper
reading_fault_of keep_fault.NoMemory = reading_fault.NoMemory

-- the cells of a model
abbrev pub IsOf : ModelNo → Cell → Type 0
IsOf model cell = cell.model ≡ model

-- the kept ones of these fields with their numbers, each with its value
abbrev pub entries : List FieldInfo → List Value → List (Column × Value)
entries fields values = zip (filter (λ column. is_kept column.1) (enumerate_from 1 fields)) values

-- what an edit is given of one: its value, if that is a plain one
abbrev pub given_of : Column × Value → Option (FieldNo × Value)
given_of entry = if is_plain_kept entry.0.1 then Some (record { 0 = entry.0.0 }, entry.1) else None

-- what is tested of one: its value, if a formula gives it
abbrev pub stored_of : ModelNo → RecId → Column × Value → Option (Cell × Value)
stored_of model id entry = if is_plain_kept entry.0.1 then None else Some (record { model = model; id = id; field = record { 0 = entry.0.0 } }, entry.1)

-- the links of one
abbrev pub links_for : Column × Value → List Link
links_for entry = if is_plain_kept entry.0.1 then links_by entry.0 entry.1 else []

-- it is one of them
abbrev pub IsOneOf : {X : Type 0} → X → List X → Type 0
IsOneOf x [] = ⊥
IsOneOf x (y ∷ ys) = (x ≡ y) ⊎ IsOneOf x ys

-- a row that was read: as it is kept, and with the values of its kept fields
pub record ReadRow : Type 0 where
  pub model : ModelNo
  pub info : ModelInfo
  pub row : KeptRow
  pub values : List Value

-- the edit that makes it
abbrev pub edit_of : ReadRow → Edit
edit_of r = edit.Make r.model r.row.id (filter_map given_of (entries r.info.fields r.values))

-- what is tested of it
abbrev pub tests_of : ReadRow → List (Cell × Value)
tests_of r = filter_map (stored_of r.model r.row.id) (entries r.info.fields r.values)

-- one stands before another: by model, then id
abbrev pub IsBefore : ReadRow → ReadRow → Type 0
IsBefore a b = (a.model.0 < b.model.0) ⊎ ((a.model.0 ≡ b.model.0) × (a.row.id.0 < b.row.id.0))

-- each of a list stands before all behind it
abbrev pub EachBefore : {X : Type 0} → (X → X → Type 0) → List X → Type 0
EachBefore Before [] = ⊤
EachBefore Before (x ∷ xs) = AllByRecursion (Before x) xs × EachBefore Before xs

-- rows add the edits that make them, and what is tested of them
pub record AddsRows (reads : List ReadRow) (old new : ReadRows) : Type 0 where
  pub edits : new.edits ≡ old.edits ++ map edit_of reads
  pub stored : new.stored ≡ old.stored ++ flat_map tests_of reads

-- a row of a model with this next id, read as it can be
pub record IsReadRow (models : List ModelInfo) (model : ModelNo) (next : ℕ) (r : ReadRow) : Type 0 where
  pub model_is : r.model ≡ model
  pub info_is : model_at models r.model ≡ Some r.info
  pub read_as : IsReadAs r.info r.row r.values
  pub below : r.row.id.0 < next

-- rows of a model were read, of which something is told
pub record ReadsRows (models : List ModelInfo) (model : ModelNo) (next : ℕ) (Told : List KeptRow → Type 0) (old new : ReadRows) : Type 0 where
  pub reads : List ReadRow
  pub adds : AddsRows reads old new
  pub each : AllByRecursion (IsReadRow models model next) reads
  pub told : Told (map (λ r. r.row) reads)

-- all rows of a model: that of id 0, and those above it
abbrev pub rows_of : Store → ModelNo → List KeptRow
rows_of store model = option_map_or (λ row. row ∷ []) (kept_row_at store model (record { 0 = 0 })) [] ++ rows_after store model (record { 0 = 0 })

-- rows are those of the model above an id, where a keeper tells them; and its rows are named
abbrev pub TellsAfter : Option Store → ModelNo → RecId → List KeptRow → Type 0
TellsAfter kept model after rows = IfSome kept (λ store. RowsNamed store × (rows ≡ rows_after store model after))

-- the same of all rows of the model
abbrev pub TellsAll : Option Store → ModelNo → List KeptRow → Type 0
TellsAll kept model rows = IfSome kept (λ store. RowsNamed store × (rows ≡ rows_of store model))

-- rows were read up to an id, those above it are left
abbrev pub TellsUpTo : Option Store → ModelNo → RecId → List KeptRow → Type 0
TellsUpTo kept model after rows = IfSome kept (λ store. rows ++ rows_after store model after ≡ rows_after store model (record { 0 = 0 }))

-- the next id of a model, where a keeper tells it
abbrev pub TellsNext : Option Store → ModelNo → ℕ → Type 0
TellsNext kept model next = IfSome kept (λ store. next ≡ kept_next_of store model)

-- of each model up to a number the rows that were read are those that are kept, in their order, and the next id is the kept one
pub record AreTold (models : List ModelInfo) (place : ℕ) (tables : Tables) (reads : List ReadRow) (store : Store) : Type 0 where
  pub rising : EachBefore IsBefore reads
  pub row : AllByRecursion (λ r. kept_row_at store r.model r.row.id ≡ Some r.row) reads
  pub all : (model : ModelNo) (id : RecId) (row : KeptRow) → HasModel models model → model.0 ≤ place → kept_row_at store model id ≡ Some row → (r : ReadRow) × IsOneOf r reads × (r.model ≡ model) × (r.row.id ≡ id)
  pub next : (model : ModelNo) → HasModel models model → model.0 ≤ place → kept_next_of store model ≡ next_of tables model

-- the rows of the models up to a number were read; the tables are without rows, with the next ids of these models
pub record ReadsModels (models : List ModelInfo) (kept : Option Store) (place : ℕ) (tables : Tables) (old new : ReadRows) : Type 0 where
  pub reads : List ReadRow
  pub adds : AddsRows reads old new
  pub each : AllByRecursion (λ r. IsReadRow models r.model (next_of tables r.model) r × (r.model.0 ≤ place)) reads
  pub empty : tables.rows ≡ finite.empty
  pub low : (model : ModelNo) → 1 ≤ next_of tables model
  pub fits : (model : ModelNo) → next_of tables model < 2 ^ 63
  pub told : IfSome kept (AreTold models place tables reads)

-- a row of a model with this next id can be read
abbrev pub CanBeRead : ℕ → ModelInfo → KeptRow → Type 0
CanBeRead next info kept = (kept.id.0 < next) × ((values : List Value) × IsReadAs info kept values)

-- it can't
abbrev pub CannotBeRead : ℕ → ModelInfo → KeptRow → Type 0
CannotBeRead next info kept = (next ≤ kept.id.0) ⊎ ((values : List Value) → IsReadAs info kept values → ⊥)

-- what is told of a row: its values, or that it can't be read
abbrev pub IsTold : ℕ → ModelInfo → KeptRow → Option (List Value) → Type 0
IsTold next info kept (Some values) = (kept.id.0 < next) × IsReadAs info kept values
IsTold next info kept None = CannotBeRead next info kept

-- why a row isn't read: it can't be, and its field `id` shows it; or memory is wanting
abbrev pub IsUnreadAt : List ModelInfo → ℕ → ModelInfo → KeptRow → ModelNo → ReadingFault → Type 0
IsUnreadAt models next info kept model (reading_fault.Unreadable cell) =
    CannotBeRead next info kept × (cell.model ≡ model) × (cell.id ≡ kept.id) × IsSomeAnd (field_at models model cell.field) (λ field. is_id_from field.origin ≡ true)
IsUnreadAt models next info kept model reading_fault.Keeper = ⊥
IsUnreadAt models next info kept model reading_fault.NoMemory = ⊤

-- the same of one of some rows, where all before it can be read
abbrev pub IsUnreadAmong : List ModelInfo → ℕ → ModelInfo → List KeptRow → ModelNo → ReadingFault → Type 0
IsUnreadAmong models next info rows model fault =
    (front : List KeptRow) × (row : KeptRow) × (rest : List KeptRow) × (rows ≡ front ++ row ∷ rest) × AllByRecursion (CanBeRead next info) front × IsUnreadAt models next info row model fault

-- the cells of rows of a model whose ids are above 0
pub record IsAboveNone (model : ModelNo) (cell : Cell) : Type 0 where
  pub model_is : cell.model ≡ model
  pub above : 0 < cell.id.0

-- the row of a cell stands before that of another
abbrev pub IsRowBefore : Cell → Cell → Type 0
IsRowBefore a b = (a.model.0 < b.model.0) ⊎ ((a.model.0 ≡ b.model.0) × (a.id.0 < b.id.0))

-- a cell shows that a row can't be read, and no row before it among some does
pub record IsFirstUnread (models : List ModelInfo) (store : Store) (Among : Cell → Type 0) (cell : Cell) : Type 0 where
  pub among : Among cell
  pub shows : ShowsUnread models store cell
  pub none_before : (other : Cell) → Among other → ShowsUnread models store other → IsRowBefore other cell → ⊥

-- why the rows of some cells aren't read: the keeper failed, this is the first that can't be read, or memory is wanting
abbrev pub StopsReading : List ModelInfo → Option Store → Type 0 → (Cell → Type 0) → ReadingFault → Type 0
StopsReading models kept rose Among reading_fault.Keeper = rose
StopsReading models kept rose Among (reading_fault.Unreadable cell) = IfSome kept (λ store. IsFirstUnread models store Among cell)
StopsReading models kept rose Among reading_fault.NoMemory = ⊤

-- why a store isn't read: the keeper failed, this is the first row that can't be read, or memory is wanting
abbrev pub StopsStore : List ModelInfo → Option Store → Type 0 → ReadingFault → Type 0
StopsStore models kept rose reading_fault.Keeper = rose
StopsStore models kept rose (reading_fault.Unreadable cell) = IfSome kept (λ store. IsFirstTo (ShowsUnread models store) cell)
StopsStore models kept rose reading_fault.NoMemory = ⊤

-- what is kept for a cell before that of another
abbrev pub IsStoredBefore : Cell × Value → Cell × Value → Type 0
IsStoredBefore s t = cell_order s.0 t.0 ≡ Less

-- a cell of a field whose value a formula gives and rows keep
abbrev pub IsStoredCell : List ModelInfo → Cell → Type 0
IsStoredCell models cell = FieldHas models (λ field. is_stored field ≡ true) cell.model cell.field

-- what rows keep for computed fields, in the order of cells
pub record AreStored (models : List ModelInfo) (store : Store) (stored : List (Cell × Value)) : Type 0 where
  pub right : AllByRecursion (λ s. Keeps models store s.0 s.1) stored
  pub all : (cell : Cell) (v : Value) → IsStoredCell models cell → Keeps models store cell v → IsOneOf (cell, v) stored
  pub rising : EachBefore IsStoredBefore stored

-- a field may hold what is kept for it
abbrev pub IsFitStored : List ModelInfo → Cell × Value → Type 0
IsFitStored models s = FieldHas models (λ field. Holds field s.1) s.0.model s.0.field
