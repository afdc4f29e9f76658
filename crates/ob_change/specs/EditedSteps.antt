-- Private: the steps by which the edited cells are found: what a list gains, and what a change edits by one cell of a touched row.
use Rattle.std.specs.Prelude.{◌≡◌, ◌≢◌, ◌↔◌, ◌⊎◌, List, [], Contains, Option, Some, None, IsSome, is_some, true}
use Rattle.std.specs.Option.{option_map_or, option_or}
use Rattle.ob_base.specs.declared.id.Cell.{Cell}
use Rattle.ob_base.specs.declared.id.FieldNo.{FieldNo}
use Rattle.ob_base.specs.declared.id.ModelNo.{ModelNo}
use Rattle.ob_base.specs.declared.id.RecId.{RecId}
use Rattle.ob_base.specs.declared.id.RowKey.{RowKey}
use Rattle.ob_schema.specs.Fields.{is_plain_from}
use Rattle.ob_schema.specs.Links.{Sides}
use Rattle.ob_schema.specs.Models.{FieldHas, is_given_from}
use Rattle.ob_schema.specs.Plain.{plain_at, targets_of}
use Rattle.ob_schema.specs.Tables.{Tables, row_at}
use Rattle.ob_schema.specs.declared.info.FieldInfo.{FieldInfo}
use Rattle.ob_schema.specs.declared.info.ModelInfo.{ModelInfo}
use Rattle.ob_trigger.specs.Affected.{Edited}

-- a list gains these, each once or more, and nothing else
abbrev pub Gains : {X : Type 0} → (X → Type 0) → List X → List X → Type 0
Gains {X} P old new = (x : X) → Contains new x ↔ (Contains old x ⊎ P x)

-- an id stands in the one list and not in the other
abbrev pub StandsAlone : List RecId → List RecId → RecId → Type 0
StandsAlone ids others id = Contains ids id × (Contains others id → ⊥)

-- it stands in one of two lists alone
abbrev pub StandsOnce : List RecId → List RecId → RecId → Type 0
StandsOnce was is id = StandsAlone was is id ⊎ StandsAlone is was id

-- the cell of a row
abbrev pub cell_in : RowKey → FieldNo → Cell
cell_in key field = record { model = key.model; id = key.id; field = field }

-- calls give the field's value, or it is the row's id
abbrev pub IsGiven : FieldInfo → Type 0
IsGiven info = is_given_from info.origin ≡ true

-- the value is the list of the rows of a model that name the row by this field of theirs
abbrev pub IsListBy : ModelNo → FieldNo → FieldInfo → Type 0
IsListBy model back info = (is_plain_from info.origin ≡ true) × (option_or info.inverse info.mirror ≡ Some back) × (info.relation ≡ Some model)

-- the rows that a plain cell names
abbrev pub named_by : List ModelInfo → Tables → Cell → List RecId
named_by models tables cell = option_map_or targets_of (plain_at tables models cell) []

module _ (sides : Sides) where
  -- a row is there on one side alone
  abbrev pub IsThereOnce : ModelNo → RecId → Type 0
  IsThereOnce model id = is_some (row_at sides.before model id) ≢ is_some (row_at sides.behind model id)

  -- a row is there behind the change; one that was there before it alone is touched itself, and its cells are found by it
  abbrev pub IsThere : ModelNo → RecId → Type 0
  IsThere model id = IsSome (row_at sides.behind model id)

  -- a cell of a field in one of these rows, which is there
  abbrev pub IsCellOf : ModelNo → FieldNo → List RecId → Cell → Type 0
  IsCellOf model field ids cell = (cell.model ≡ model) × (cell.field ≡ field) × Contains ids cell.id × IsThere cell.model cell.id

module _ (models : List ModelInfo) (sides : Sides) where
  -- the rows that an edited cell names before the change or behind it, but not on both sides
  abbrev pub NamesOnce : Cell → List RecId → Type 0
  NamesOnce own ids = Edited models sides own × ((id : RecId) → Contains ids id ↔ StandsOnce (named_by models sides.before own) (named_by models sides.behind own) id)

  -- a list of a row that is there, of the rows that name it by the field of this cell
  abbrev pub ListsBack : Cell → Cell → Type 0
  ListsBack own cell = IsThere sides cell.model cell.id × FieldHas models (IsListBy own.model own.field) cell.model cell.field

  -- such a list of one of these rows
  abbrev pub ListsBackIn : Cell → ModelNo → List RecId → Cell → Type 0
  ListsBackIn own model ids cell = (cell.model ≡ model) × Contains ids cell.id × ListsBack own cell

  -- a cell whose value stands in the row: it is edited itself, and so are the lists of the rows that it names on one side alone
  abbrev pub EditsKept : Option ModelNo → Cell → Cell → Type 0
  EditsKept relation own cell = ((cell ≡ own) × Edited models sides own)
      ⊎ ((relation ≡ Some cell.model) × StandsOnce (named_by models sides.before own) (named_by models sides.behind own) cell.id × ListsBack own cell)

  -- by the field back, where other rows make the value: by itself such a cell is edited only if its row is there on one side alone
  abbrev pub EditsBy : Option FieldNo → Option ModelNo → Cell → Cell → Type 0
  EditsBy None relation own cell = EditsKept relation own cell
  EditsBy (Some back) relation own cell = (cell ≡ own) × IsThereOnce sides own.model own.id

  -- what the change edits by a cell
  abbrev pub CellEdits : Cell → Cell → Type 0
  CellEdits own cell = FieldHas models (λ info. IsGiven info × EditsBy (option_or info.inverse info.mirror) info.relation own cell) own.model own.field

  -- what it edits by a row
  abbrev pub RowEdits : RowKey → Cell → Type 0
  RowEdits key cell = (field : FieldNo) × CellEdits (cell_in key field) cell
