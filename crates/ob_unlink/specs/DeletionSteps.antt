-- Private: what the steps of a deletion say of their results.
use Rattle.std.specs.Prelude.{◌≡◌, ◌⊎◌, ◌↔◌, ◌≤◌, ◌+◌, ◌++◌, ℕ, List, map, filter, length, not, Bool, true, false, Contains, Option, Some, option_map, unwrap_or, IsSome, IsSomeAnd, IsOk, Result, Ok, Err, ⊤}
use Rattle.std.specs.BTreeSet as sorted
use Rattle.ob_base.specs.BrokenOrder.{cell_order}
use Rattle.ob_base.specs.declared.id.Cell.{Cell}
use Rattle.ob_base.specs.declared.id.FieldNo.{FieldNo}
use Rattle.ob_base.specs.declared.id.ModelNo.{ModelNo}
use Rattle.ob_base.specs.declared.id.RecId.{RecId}
use Rattle.ob_base.specs.declared.id.RowKey.{RowKey}
use Rattle.ob_base.specs.declared.place.PathStep.{PathStep}
use Rattle.ob_base.specs.declared.refusal.Broken.{Broken}
use Rattle.ob_base.specs.declared.refusal.BrokenKind.{BrokenKind}
use Rattle.ob_base.specs.declared.refusal.BrokenKind.TheVariants as kind
use Rattle.ob_base.specs.declared.refusal.Op.TheVariants as op
use Rattle.ob_base.specs.declared.refusal.Refusal.{Refusal}
use Rattle.ob_base.specs.declared.refusal.Refusal.TheVariants as refusal
use Rattle.ob_base.specs.declared.value.Value.TheVariants as value
use Rattle.ob_cache.specs.Calls.{settled_over}
use Rattle.ob_cache.specs.Stages.{IsKeptRelation}
use Rattle.ob_cache.specs.Standing.{Holding, Stands}
use Rattle.ob_call.specs.Ids.{IsLeastMissing}
use Rattle.ob_definition.specs.declared.field_type.OnDelete.TheVariants as ondelete
use Rattle.ob_io.specs.Store.{Store}
use Rattle.ob_rows.specs.AskingSteps.{AdmitsBy, DeniesBy, may_by}
use Rattle.ob_unlink.specs.Deletion.{Bars, HasAction, IsDeleted, NamesRow, left_at, row_of_cell}
use Rattle.ob_rows.specs.RowSets.{has_key}
use Rattle.ob_rows.specs.Lasting.{Lasts}
use Rattle.ob_rows.specs.Locks.{IsLocked, told_field}
use Rattle.ob_unlink.specs.Unlink.{AreDeleted, StopsDeletion}
use Rattle.ob_rows.specs.Rights.{DeniesOne, rows_named}
use Rattle.ob_rows.specs.There.{AreThere}
use Rattle.ob_rows.specs.declared.asking.Caller.{Caller}
use Rattle.ob_rows.specs.declared.relations.KeptRelation.{KeptRelation}
use Rattle.ob_schema.specs.Facts.{told_by}
use Rattle.ob_schema.specs.Models.{FieldHas, HasField, HasModel, is_id_from, model_at}
use Rattle.ob_schema.specs.Plain.{naming}
use Rattle.ob_schema.specs.Tables.{Tables, kept_at, row_at}
use Rattle.ob_schema.specs.declared.info.ModelInfo.{ModelInfo}
use Rattle.ob_tables.specs.Changes.{MakesBelow}
use Rattle.ob_tables.specs.Fitting.{IsFitEdit, IsFitId}
use Rattle.ob_tables.specs.declared.edit.Edit.{Edit}
use Rattle.ob_tables.specs.declared.edit.Edit.TheVariants as edit

-- ---- relations

-- the cell of a relation in a row
abbrev pub cell_by : KeptRelation → RecId → Cell
cell_by relation id = record { model = relation.model; id = id; field = relation.field }

-- ---- the search

abbrev pub has_cell : sorted.BTreeSet Cell → Cell → Bool
has_cell cells cell = sorted.contains cell_order cells cell

-- the rows with a property were taken, and those of them that weren't before wait
pub record TakesMore (old new : sorted.BTreeSet RowKey) (before now : List RowKey) (P : RowKey → Type 0) : Type 0 where
  pub taken : (row : RowKey) → (has_key new row ≡ true) ↔ ((has_key old row ≡ true) ⊎ P row)
  pub waiting : (row : RowKey) → Contains now row ↔ (Contains before row ⊎ ((has_key new row ≡ true) × (has_key old row ≡ false)))

-- as many more wait as are taken
abbrev pub KeepsCount : sorted.BTreeSet RowKey → sorted.BTreeSet RowKey → List RowKey → List RowKey → Type 0
KeepsCount old new before now = (length now + length old.keys ≡ length before + length new.keys) × (length old.keys ≤ length new.keys)

-- the cells with a property were added
abbrev pub AddsCells : sorted.BTreeSet Cell → sorted.BTreeSet Cell → (Cell → Type 0) → Type 0
AddsCells old new P = (cell : Cell) → (has_cell new cell ≡ true) ↔ ((has_cell old cell ≡ true) ⊎ P cell)

-- a relation leads from a cell to a row
abbrev pub LeadsBy : Tables → KeptRelation → RowKey → Cell → Type 0
LeadsBy tables relation row cell = (relation.target ≡ row.model) × (cell ≡ cell_by relation cell.id) × Contains (naming tables relation.model relation.field row.id) cell.id

-- and takes the cell's row with that one
abbrev pub TakesBy : Tables → KeptRelation → RowKey → RowKey → Type 0
TakesBy tables relation row other = (relation.cascades ≡ true) × (relation.target ≡ row.model) × (other.model ≡ relation.model) × Contains (naming tables relation.model relation.field row.id) other.id

-- rows and cells of the registry
abbrev pub IsFitRow : List ModelInfo → RowKey → Type 0
IsFitRow models row = HasModel models row.model × IsFitId row.id

abbrev pub IsFitCell : List ModelInfo → Cell → Type 0
IsFitCell models cell = FieldHas models IsKeptRelation cell.model cell.field × IsFitId cell.id

pub record AreFit (models : List ModelInfo) (rows : sorted.BTreeSet RowKey) (cells : sorted.BTreeSet Cell) : Type 0 where
  pub rows_fit : (row : RowKey) → has_key rows row ≡ true → IsFitRow models row
  pub cells_fit : (cell : Cell) → has_cell cells cell ≡ true → IsFitCell models cell

-- all rows that go with some, and all cells that name any of these
pub record IsDeletion (models : List ModelInfo) (tables : Tables) (some : List RowKey) (rows : sorted.BTreeSet RowKey) (cells : sorted.BTreeSet Cell) : Type 0 where
  pub goes : (row : RowKey) → (has_key rows row ≡ true) ↔ IsDeleted models tables some row
  pub name : (cell : Cell) → (has_cell cells cell ≡ true) ↔ ((row : RowKey) × (has_key rows row ≡ true) × NamesRow models tables cell row)

-- rows that are there, and all cells that name any of them
pub record Covers (models : List ModelInfo) (tables : Tables) (rows : sorted.BTreeSet RowKey) (cells : sorted.BTreeSet Cell) : Type 0 where
  pub there : (row : RowKey) → has_key rows row ≡ true → IsSome (row_at tables row.model row.id)
  pub name : (cell : Cell) → (has_cell cells cell ≡ true) ↔ ((row : RowKey) × (has_key rows row ≡ true) × NamesRow models tables cell row)

-- ---- what keeps rows from going, and what becomes of the others

-- a row may go, whatever names it
pub record MayGo (models : List ModelInfo) (tables : Tables) (row : RowKey) : Type 0 where
  pub passing : Lasts models row → ⊥
  pub unlocked : IsLocked models tables row → ⊥

-- a row is kept from going in this way, and told by a cell of this field
abbrev pub BarsRowAs : List ModelInfo → Tables → BrokenKind → RowKey → FieldNo → Type 0
BarsRowAs models tables kind.Managed row field = Lasts models row × FieldHas models (λ info. is_id_from info.origin ≡ true) row.model field
BarsRowAs models tables kind.Locked row field = IsLocked models tables row × IsSomeAnd (model_at models row.model) (λ info. told_field info ≡ Some field)
BarsRowAs models tables _ row field = ⊥

-- the refusal is of a row that may not go
abbrev pub BarsRow : List ModelInfo → Tables → RowKey → Refusal → Type 0
BarsRow models tables row (refusal.Constraint b) = (row_of_cell b.cell ≡ row) × BarsRowAs models tables b.kind row b.cell.field
BarsRow models tables row _ = ⊥

-- a cell of a row that stays, of a many2one with `restrict`
abbrev pub IsRestricting : List ModelInfo → (RowKey → Bool) → Cell → Type 0
IsRestricting models gone cell = HasAction models ondelete.Restrict cell × (gone (row_of_cell cell) ≡ false)

-- the refusal is of such a cell among these
abbrev pub RestrictsBy : List ModelInfo → sorted.BTreeSet RowKey → sorted.BTreeSet Cell → Refusal → Type 0
RestrictsBy models rows cells (refusal.Constraint b) = (b.kind ≡ kind.Restrict) × Contains cells.keys b.cell × IsRestricting models (has_key rows) b.cell
RestrictsBy models rows cells _ = ⊥

-- the refusal is of something that keeps rows from going
abbrev pub IsBarredBy : List ModelInfo → Tables → sorted.BTreeSet RowKey → Refusal → Type 0
IsBarredBy models tables rows (refusal.Constraint b) = Bars models tables (has_key rows) b
IsBarredBy models tables rows _ = ⊥

-- nothing does
abbrev pub MayAllGo : List ModelInfo → Tables → sorted.BTreeSet RowKey → Type 0
MayAllGo models tables rows = (b : Broken) → Bars models tables (has_key rows) b → ⊥

-- the edit that leaves in a cell what is left of its value
abbrev pub left_edit : List ModelInfo → (RowKey → Bool) → Tables → Cell → Edit
left_edit models gone tables cell = edit.Set cell (unwrap_or (option_map (left_at models gone cell) (kept_at tables cell)) value.Nil)

-- those of some cells whose rows stay
abbrev pub staying : (RowKey → Bool) → List Cell → List Cell
staying gone cells = filter (λ cell. not (gone (row_of_cell cell))) cells

-- the rows go
abbrev pub gone_edits : List RowKey → List Edit
gone_edits rows = map (λ row. edit.Gone row.model row.id) rows

-- the edits of a deletion
abbrev pub deletion_edits : List ModelInfo → Tables → sorted.BTreeSet RowKey → sorted.BTreeSet Cell → List Edit
deletion_edits models tables rows cells = map (left_edit models (has_key rows) tables) (staying (has_key rows) cells.keys) ++ gone_edits rows.keys

-- an edit that may be asked for, and makes no row
abbrev pub IsMakingNone : List ModelInfo → Edit → Type 0
IsMakingNone models one = IsFitEdit models one × ((model : ModelNo) → MakesBelow model 0 one)

-- an engine has settled tables in which these rows are deleted
abbrev pub SettlesDeletion : Option Store → Holding → List ModelInfo → Tables → List RowKey → Type 0
SettlesDeletion kept held models old rows = (new : Tables) × AreDeleted models rows old new × Stands kept held (settled_over models old new)

-- the refusal is of something that stops a deletion
abbrev pub IsStoppedBy : List ModelInfo → Tables → List RowKey → Refusal → Type 0
IsStoppedBy models tables rows (refusal.Constraint b) = StopsDeletion models tables rows b
IsStoppedBy models tables rows _ = ⊥

-- why rows that are there aren't deleted for a caller: the least that a rule denies him; or what keeps them from it
abbrev pub HoldsBack : List ModelInfo → Caller → ModelNo → Tables → List ℕ → Refusal → Type 0
HoldsBack models by model tables ids (refusal.Rule m operation id name) = DeniesBy by (told_by models tables) op.Unlink (rows_named model ids) (refusal.Rule m operation id name)
HoldsBack models by model tables ids (refusal.Constraint b) = AdmitsBy by (told_by models tables) op.Unlink (rows_named model ids) × StopsDeletion models tables (rows_named model ids) b
HoldsBack models by model tables ids _ = ⊥

-- why rows aren't deleted: the least of the ids that no row has; or what holds the rows back
abbrev pub StopsUnlink : List ModelInfo → Caller → ModelNo → Tables → List ℕ → Refusal → Type 0
StopsUnlink models by model tables ids (refusal.Missing m id) = (m ≡ model) × IsLeastMissing model tables ids id.0
StopsUnlink models by model tables ids why = AreThere model tables ids × HoldsBack models by model tables ids why

-- whatever the tables: a rule denies the row of one of the ids, or something is broken at a cell of the models
abbrev pub MayHoldBack : List ModelInfo → ModelNo → List ℕ → Refusal → Type 0
MayHoldBack models model ids (refusal.Rule m operation id name) = DeniesOne op.Unlink (rows_named model ids) (refusal.Rule m operation id name)
MayHoldBack models model ids (refusal.Constraint b) = HasField models b.cell.model b.cell.field
MayHoldBack models model ids _ = ⊥

-- or one of the ids is missing
abbrev pub MayStopUnlink : List ModelInfo → ModelNo → List ℕ → Refusal → Type 0
MayStopUnlink models model ids (refusal.Missing m id) = (m ≡ model) × Contains ids id.0
MayStopUnlink models model ids why = MayHoldBack models model ids why

-- the ids that a call gives, whose caller may delete rows of the model; or why not
abbrev pub IsNaming : {A : Type 0} → (A → List ℕ) → Caller → ModelNo → Result A Refusal → Result (List ℕ) (List PathStep) → Type 0
IsNaming of by model (Ok ids) meant = (meant ≡ Ok (of ids)) × (may_by by (op.Unlink, model) ≡ true)
IsNaming of by model (Err (refusal.Request place)) meant = meant ≡ Err place
IsNaming of by model (Err (refusal.Right m operation)) meant = IsOk meant × (m ≡ model) × (operation ≡ op.Unlink) × (may_by by (op.Unlink, model) ≡ false)
IsNaming of by model (Err refusal.NoMemory) meant = ⊤
IsNaming of by model (Err _) meant = ⊥
