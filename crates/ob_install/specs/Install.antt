-- The machine's `install`: the rows that modules bring, made one behind another in a store without rows.
use Rattle.std.specs.Prelude.{◌≡◌, ◌≢◌, ◌<◌, ◌⊎◌, ◌∷◌, ◌++◌, [], ℕ, ℤ, suc, List, Any, Bool, true, false, codes, fold, length, map, nat_eq, slice_get, slice_index, take, Some, None, IsSome, IsSomeAnd, Result, Ok, Err, ⊤}
use Rattle.std.specs.BTreeSet.{insert_key}
use Rattle.std.specs.List.{starts_with}
use Rattle.std.specs.Ordering.{nat_cmp}
use Rattle.ob_base.specs.declared.id.Cell.{Cell}
use Rattle.ob_base.specs.declared.id.FieldNo.{FieldNo}
use Rattle.ob_base.specs.declared.id.ModelNo.{ModelNo}
use Rattle.ob_base.specs.declared.id.RecId.{RecId}
use Rattle.ob_base.specs.declared.id.RowKey.{RowKey}
use Rattle.ob_base.specs.declared.refusal.Broken.{Broken}
use Rattle.ob_base.specs.declared.refusal.BrokenKind.{BrokenKind}
use Rattle.ob_base.specs.declared.refusal.BrokenKind.TheVariants as kind
use Rattle.ob_base.specs.declared.value.Value.{Value}
use Rattle.ob_base.specs.declared.value.Value.TheVariants as value
use Rattle.ob_cache.specs.Calls.{HasTables, KeeperRose, Standpoint, models_at}
use Rattle.ob_rows.specs.Values.{is_readonly}
use Rattle.ob_orm.specs.NewRows.{Values, made_row}
use Rattle.ob_rows.specs.declared.author.Author.{Author}
use Rattle.ob_install.specs.declared.installing.InstallFault.{InstallFault}
use Rattle.ob_install.specs.declared.installing.InstallFault.TheVariants as fault
use Rattle.ob_schema.specs.Broken.{IsBroken, Sound}
use Rattle.ob_schema.specs.Models.{FieldHas, HasField, field_at, is_id_from, model_at}
use Rattle.ob_schema.specs.Plain.{plain_at}
use Rattle.ob_schema.specs.Tables.{Tables, empty_tables, key_of, row_at}
use Rattle.ob_schema.specs.declared.info.ModelInfo.{ModelInfo}
use Rattle.ob_schema.specs.declared.info.Origin.{Origin}
use Rattle.ob_schema.specs.declared.info.Origin.TheVariants as origin
use Rattle.ob_schema.specs.declared.preset.PresetRow.{PresetRow}
use Rattle.ob_schema.specs.declared.preset.PresetValue.{PresetValue}
use Rattle.ob_schema.specs.declared.preset.PresetValue.TheVariants as preset
use Rattle.ob_tables.specs.After.{after}

-- the tables of an engine, where it has any, have no row, and each model's next id is 1
abbrev pub IsNew : Standpoint → Type 0
IsNew at = (tables : Tables) → HasTables at tables → tables ≡ empty_tables (models_at at)

-- ---- the rows

-- the ids of the rows of these numbers, rising, each once
abbrev pub ids_among : List ℕ → List ℕ → List RecId
ids_among ids numbers = map (λ id. record { 0 = id }) (fold (insert_key nat_cmp) [] (map (slice_index ids) numbers))

-- the value that a row brings, by the ids of the rows before it
abbrev pub brought : List ℕ → PresetValue → Value
brought ids (preset.Plain v) = v
brought ids (preset.Row n) = value.Ref (record { 0 = slice_index ids n })
brought ids (preset.Rows numbers) = value.Refs (ids_among ids numbers)

-- what these values give the fields of a row
abbrev pub given_by : List ℕ → List (FieldNo × PresetValue) → Values
given_by ids values = map (λ given. (given.0, brought ids given.1)) values

-- a row that is made for a group
abbrev pub is_of_group : PresetRow → Bool
is_of_group row = starts_with nat_eq row.place (codes "group.")

-- the tables with the rows so far, and the ids of these
pub record RowsSoFar : Type 0 where
  pub tables : Tables
  pub ids : List ℕ

-- rows as they are made one behind another: their ids, and the tables with the first so many of them
pub record Course : Type 0 where
  pub rows : List PresetRow
  pub ids : List ℕ
  pub tables : ℕ → Tables

module _ (models : List ModelInfo) (by : Author) where
  -- a row behind others: the tables with it and its parents, and the ids of all
  abbrev pub with_row : RowsSoFar → PresetRow → RowsSoFar
  with_row at row =
      let one = made_row models by at.tables row.model (given_by at.ids row.values) in
      record { tables = after models at.tables one.edits; ids = at.ids ++ one.id ∷ [] }

  -- rows one behind another, where there are none: the tables with them, and their ids
  abbrev pub installed_by : List PresetRow → RowsSoFar
  installed_by rows = fold with_row (record { tables = empty_tables models; ids = [] }) rows

  abbrev pub course_by : List PresetRow → Course
  course_by rows = record { rows = rows; ids = (installed_by rows).ids; tables = λ n. (installed_by (take n rows)).tables }

-- the system at a moment: user 1
abbrev pub system_at : ℤ → Author
system_at now = record { user = record { 0 = 1 }; now = now }

-- The system makes those that modules bring.
module _ (models : List ModelInfo) (now : ℤ) where
  abbrev pub installed : List PresetRow → RowsSoFar
  installed rows = installed_by models (system_at now) rows

  abbrev pub course : List PresetRow → Course
  course rows = course_by models (system_at now) rows

-- ---- what stands against rows

module _ (models : List ModelInfo) (at : Course) where
  -- a row is made for the one of a number, it or a parent of it: it isn't there before that one, and is behind it
  pub record IsMadeFor (n : ℕ) (key : RowKey) : Type 0 where
    pub absent : row_at (at.tables n) key.model key.id ≡ None
    pub there : IsSome (row_at (at.tables (suc n)) key.model key.id)

  -- a value for a cell is one for another: for itself, or where its field is delegated for the parent's, in the row that the link names
  abbrev pub IsValueFor : Tables → Cell → Origin → Cell → Type 0
  IsValueFor tables own (origin.Delegated to) cell =
      (plain_at tables models (record own { field = to.link }) ≡ Some (value.Ref cell.id)) × (cell.model ≡ to.model) × (cell.field ≡ to.field)
  IsValueFor tables own _ cell = cell ≡ own

  -- the value that the row of a number gives a field is one for a cell
  abbrev pub GivesFor : ℕ → ModelNo → FieldNo → Cell → Type 0
  GivesFor n model field cell =
      let own : Cell = record { model = model; id = record { 0 = slice_index at.ids n }; field = field } in
      IsSomeAnd (field_at models model field) (λ info. IsValueFor (at.tables (suc n)) own info.origin cell)

  -- the row of a number gives a value for a cell
  abbrev pub Gives : ℕ → Cell → Type 0
  Gives n cell = IsSomeAnd (slice_get at.rows n) (λ row. Any (λ given. GivesFor n row.model given.0 cell) row.values)

  -- the id of a row of a managed model
  abbrev pub IsOfManaged : Cell → Type 0
  IsOfManaged cell =
      IsSomeAnd (model_at models cell.model) (λ info. info.managed ≡ true) × FieldHas models (λ info. is_id_from info.origin ≡ true) cell.model cell.field

  -- a cell to which calls give no value, and a row does
  abbrev pub IsGivenAnyhow : Cell → Type 0
  IsGivenAnyhow cell = FieldHas models (λ info. is_readonly models info ≡ true) cell.model cell.field × ((n : ℕ) × Gives n cell)

  -- a value that stands before a row isn't the one behind it
  abbrev pub ChangesAt : ℕ → Cell → Type 0
  ChangesAt n cell = IsSomeAnd (plain_at (at.tables n) models cell) (λ v. plain_at (at.tables (suc n)) models cell ≢ Some v)

  -- a cell of a fixed field to which a row gives another value than it had
  abbrev pub IsChangedAnyhow : Cell → Type 0
  IsChangedAnyhow cell =
      FieldHas models (λ info. info.fixed ≡ true) cell.model cell.field × ((n : ℕ) × Gives n cell × ChangesAt n cell)

  -- what calls may not do is done at a cell of a row that is made for the one of a number; what is made for groups may be managed
  abbrev pub IsForbidden : ℕ → BrokenKind → Cell → Type 0
  IsForbidden n kind.Managed cell = IsSomeAnd (slice_get at.rows n) (λ row. is_of_group row ≡ false) × (IsOfManaged cell ⊎ IsGivenAnyhow cell)
  IsForbidden n kind.Fixed cell = IsChangedAnyhow cell
  IsForbidden n _ cell = ⊥

  -- something is wrong at a cell of a row that is made for the one of a number: the tables with all rows break it, or it is forbidden
  pub record IsRefused (n : ℕ) (b : Broken) : Type 0 where
    pub owner : IsMadeFor n (key_of b.cell.model b.cell.id)
    pub why : IsBroken models (at.tables (length at.rows)) b ⊎ IsForbidden n b.kind b.cell

-- the rows are made: their tables break nothing, and nothing else is wrong
pub record IsInstalled (models : List ModelInfo) (now : ℤ) (rows : List PresetRow) (new : Tables) : Type 0 where
  pub tables : new ≡ (installed models now rows).tables
  pub sound : Sound models new
  pub allowed : (n : ℕ) (b : Broken) → IsRefused models (course models now rows) n b → ⊥

-- why rows aren't made: something is wrong with one; the keeper failed; or memory is wanting
abbrev pub RefusesRows : Type 0 → (ℕ → Broken → Type 0) → InstallFault → Type 0
RefusesRows rose P fault.Keeper = rose
RefusesRows rose P (fault.Refused n b) = P n b
RefusesRows rose P fault.NoMemory = ⊤

-- the number is that of one of the rows, and the cell one of the models'
abbrev pub NamesRow : List ModelInfo → List PresetRow → ℕ → Broken → Type 0
NamesRow models rows n b = (n < length rows) × HasField models b.cell.model b.cell.field

module _ (now : ℤ) (rows : List PresetRow) (before after : Standpoint) where
  -- over an engine of these tables: it has the tables with the rows, which are kept; or they are refused, and it has the tables that it had
  abbrev pub InstallsOver : Tables → Result (Unit {0}) InstallFault → Type 0
  InstallsOver old (Ok _) = (new : Tables) × IsInstalled (models_at before) now rows new × HasTables after new
  InstallsOver old (Err why) =
      RefusesRows (KeeperRose before after) (IsRefused (models_at before) (course (models_at before) now rows)) why × HasTables after old
