-- What the steps of an install say of their results.
use Rattle.std.specs.Prelude.{◌≡◌, ◌==◌, ◌&&◌, ◌⊎◌, ◌<◌, ◌≤◌, ◌++◌, ◌∷◌, [], ℕ, suc, List, All, length, map, min, position, slice_get, slice_index, take, Bool, true, false, Option, Some, None, IsSomeAnd, ⊤}
use Rattle.ob_base.specs.declared.id.Cell.{Cell}
use Rattle.ob_base.specs.declared.id.FieldNo.{FieldNo}
use Rattle.ob_base.specs.declared.id.ModelNo.{ModelNo}
use Rattle.ob_base.specs.declared.id.RecId.{RecId}
use Rattle.ob_base.specs.declared.refusal.Broken.{Broken}
use Rattle.ob_base.specs.declared.refusal.BrokenKind.{BrokenKind}
use Rattle.ob_base.specs.declared.refusal.BrokenKind.TheVariants as kind
use Rattle.ob_base.specs.declared.refusal.Refusal.{Refusal}
use Rattle.ob_base.specs.declared.refusal.Refusal.TheVariants as refusal
use Rattle.ob_rows.specs.Values.{is_readonly}
use Rattle.ob_install.specs.Install.{ChangesAt, Course, IsForbidden, IsMadeFor, IsOfManaged, RowsSoFar, is_of_group}
use Rattle.ob_orm.specs.NewRowSteps.{IsReady, so_far}
use Rattle.ob_install.specs.declared.installing.InstallFault.{InstallFault}
use Rattle.ob_install.specs.declared.installing.InstallFault.TheVariants as fault
use Rattle.ob_install.specs.declared.installing.placing.Placed.{Placed}
use Rattle.ob_schema.specs.Models.{FieldHas, HasField, HasModel, field_at}
use Rattle.ob_schema.specs.Tables.{empty_tables, key_of}
use Rattle.ob_schema.specs.declared.info.FieldInfo.{FieldInfo}
use Rattle.ob_schema.specs.declared.info.ModelInfo.{ModelInfo}
use Rattle.ob_schema.specs.declared.info.Origin.{Origin}
use Rattle.ob_schema.specs.declared.info.Origin.TheVariants as origin
use Rattle.ob_schema.specs.declared.preset.PresetRow.{PresetRow}
use Rattle.ob_schema.specs.declared.preset.PresetValue.{PresetValue}
use Rattle.ob_schema.specs.declared.preset.PresetValue.TheVariants as preset
use Rattle.ob_tables.specs.After.{after}
use Rattle.ob_tables.specs.Fitting.{IsFitId}
use Rattle.ob_tables.specs.declared.edit.Edit.{Edit}
use Rattle.ob_tables.specs.declared.edit.Edit.TheVariants as edit

-- it names rows among so many
abbrev pub NamesAmong : ℕ → PresetValue → Type 0
NamesAmong count (preset.Plain v) = ⊤
NamesAmong count (preset.Row n) = n < count
NamesAmong count (preset.Rows numbers) = All (λ n. n < count) numbers

-- a row of a model that is there, whose values are for its fields
abbrev pub IsOfModels : List ModelInfo → PresetRow → Type 0
IsOfModels models row = HasModel models row.model × All (λ given. HasField models row.model given.0) row.values

-- the edits of the first so many rows
abbrev pub edits_of : Placed → ℕ → List Edit
edits_of placed n = take (slice_index placed.counts.items (min n (length placed.ids.items))) placed.making.edits.items

-- how they make the rows, where there were none
abbrev pub course_of : List ModelInfo → Placed → Course
course_of models placed = record {
  rows = placed.rows.now;
  ids = map (λ id. id.0) placed.ids.items;
  tables = λ n. after models (empty_tables models) (edits_of placed n);
}

-- it is told how many edits there were before the first row and behind each, no fewer from row to row
pub record AreCounted (placed : Placed) : Type 0 where
  pub each : length placed.counts.items ≡ suc (length placed.ids.items)
  pub none : slice_index placed.counts.items 0 ≡ 0
  pub rising : (a b : ℕ) → a ≤ b → b ≤ length placed.ids.items → slice_index placed.counts.items a ≤ slice_index placed.counts.items b
  pub all : slice_index placed.counts.items (length placed.ids.items) ≡ length placed.making.edits.items

-- and the edits may be asked for, and each id has a next one
pub record ArePlaced (models : List ModelInfo) (placed : Placed) : Type 0 where
  pub counted : AreCounted placed
  pub ready : IsReady models placed.making
  pub low : All IsFitId placed.ids.items

-- a row is placed behind others: its edits and its id behind theirs
pub record IsPlacedBehind (old new : Placed) : Type 0 where
  pub more : List Edit
  pub id : RecId
  pub rows : new.rows ≡ old.rows
  pub edits : new.making.edits.items ≡ old.making.edits.items ++ more
  pub ids : new.ids.items ≡ old.ids.items ++ id ∷ []
  pub counts : new.counts.items ≡ old.counts.items ++ length new.making.edits.items ∷ []

-- the tables so far, where there were none, and the ids
abbrev pub made_by : List ModelInfo → Placed → RowsSoFar
made_by models placed = record { tables = so_far models (empty_tables models) placed.making; ids = map (λ id. id.0) placed.ids.items }

-- all rows are placed
pub record IsWhole (models : List ModelInfo) (placed : Placed) : Type 0 where
  pub fit : ArePlaced models placed
  pub each : length placed.ids.items ≡ length placed.rows.now
  pub known : All (IsOfModels models) placed.rows.now

-- an edit makes the row of a cell
abbrev pub makes : Cell → Edit → Bool
makes cell (edit.Make model id values) = (model.0 == cell.model.0) && (id.0 == cell.id.0)
makes cell _ = false

-- the first edit that makes the row of a cell is one of the row of a number
pub record IsOwner (placed : Placed) (cell : Cell) (n : ℕ) : Type 0 where
  pub place : ℕ
  pub made : position (makes cell) placed.making.edits.items ≡ Some place
  pub within : n < length placed.ids.items
  pub before : slice_index placed.counts.items n ≤ place
  pub behind : place < slice_index placed.counts.items (suc n)

-- the field of a cell for which a value stands, by the origin of the one to which it is given
abbrev pub HasOwnInfo : List ModelInfo → ModelNo → FieldNo → Origin → FieldInfo → Type 0
HasOwnInfo models model field (origin.Delegated to) info = field_at models to.model to.field ≡ Some info
HasOwnInfo models model field _ info = field_at models model field ≡ Some info

-- the row of this number isn't made for a group
abbrev pub IsNoGroup : Course → ℕ → Type 0
IsNoGroup at n = IsSomeAnd (slice_get at.rows n) (λ row. is_of_group row ≡ false)

module _ (models : List ModelInfo) (at : Course) where
  -- what is forbidden of the values that the row of a number gives for these cells, in a row that is made for another
  abbrev pub Forbids : (Cell → Type 0) → (by n : ℕ) → BrokenKind → Cell → Type 0
  Forbids gives by n kind.Managed cell = IsNoGroup at n × FieldHas models (λ info. is_readonly models info ≡ true) cell.model cell.field × gives cell
  Forbids gives by n kind.Fixed cell = FieldHas models (λ info. info.fixed ≡ true) cell.model cell.field × gives cell × ChangesAt models at by cell
  Forbids gives by n _ cell = ⊥

  -- something that is forbidden so
  pub record IsFoundBy (gives : Cell → Type 0) (by : ℕ) (b : Broken) : Type 0 where
    pub number : ℕ
    pub field : HasField models b.cell.model b.cell.field
    pub owner : IsMadeFor models at number (key_of b.cell.model b.cell.id)
    pub why : Forbids gives by number b.kind b.cell

  -- it, or that there is none
  abbrev pub FindsBy : (Cell → Type 0) → ℕ → Option Broken → Type 0
  FindsBy gives by (Some b) = IsFoundBy gives by b
  FindsBy gives by None = (n : ℕ) (b : Broken) → IsMadeFor models at n (key_of b.cell.model b.cell.id) → Forbids gives by n b.kind b.cell → ⊥

  -- a row of a managed model, by its id, that isn't made for a group
  pub record IsManagedRow (cell : Cell) : Type 0 where
    pub number : ℕ
    pub owner : IsMadeFor models at number (key_of cell.model cell.id)
    pub no_group : IsNoGroup at number
    pub managed : IsOfManaged models at cell

  -- something that is forbidden
  pub record IsFound (b : Broken) : Type 0 where
    pub number : ℕ
    pub field : HasField models b.cell.model b.cell.field
    pub owner : IsMadeFor models at number (key_of b.cell.model b.cell.id)
    pub why : IsForbidden models at number b.kind b.cell

  -- it, or that there is no such row among these
  abbrev pub FindsManaged : (Cell → Type 0) → Option Broken → Type 0
  FindsManaged among (Some b) = IsFound b
  FindsManaged among None = (cell : Cell) → among cell → IsManagedRow cell → ⊥

  -- it, or that nothing is
  abbrev pub Finds : Option Broken → Type 0
  Finds (Some b) = IsFound b
  Finds None = (n : ℕ) (b : Broken) → IsMadeFor models at n (key_of b.cell.model b.cell.id) → IsForbidden models at n b.kind b.cell → ⊥

-- a refusal that tells a fault of the keeper or of memory
abbrev pub IsPlain : Refusal → Type 0
IsPlain refusal.Keeper = ⊤
IsPlain refusal.NoMemory = ⊤
IsPlain _ = ⊥

-- the fault that it tells
abbrev pub plain_fault : Refusal → InstallFault
plain_fault refusal.Keeper = fault.Keeper
plain_fault _ = fault.NoMemory

-- what is wrong, with the number of the row for which the row of its cell is made, or the first where it isn't made
abbrev pub TellsOwner : Placed → Broken → InstallFault → Type 0
TellsOwner placed b (fault.Refused n c) = (c ≡ b) × (IsOwner placed b.cell n ⊎ ((position (makes b.cell) placed.making.edits.items ≡ None) × (n ≡ 0)))
TellsOwner placed b fault.NoMemory = ⊤
TellsOwner placed b fault.Keeper = ⊥
