-- Which cells a change can edit, by the rows that it touches: theirs, and the lists that have one of them.
use Rattle.std.specs.Prelude.{◌≡◌, ◌⊎◌, List, Contains, IsSomeAnd}
use Rattle.std.specs.Option.{option_or}
use Rattle.ob_base.specs.declared.id.Cell.{Cell}
use Rattle.ob_base.specs.declared.id.FieldNo.{FieldNo}
use Rattle.ob_base.specs.declared.id.ModelNo.{ModelNo}
use Rattle.ob_base.specs.declared.id.RecId.{RecId}
use Rattle.ob_base.specs.declared.id.RowKey.{RowKey}
use Rattle.ob_schema.specs.Links.{Sides}
use Rattle.ob_schema.specs.Models.{FieldHas}
use Rattle.ob_schema.specs.Tables.{key_of, row_at}
use Rattle.ob_schema.specs.declared.info.FieldInfo.{FieldInfo}
use Rattle.ob_schema.specs.declared.info.ModelInfo.{ModelInfo}
use Rattle.ob_sound.specs.Lists.{NamesBy}

-- all rows but these are on both sides what they were
abbrev pub TouchesOnly : List RowKey → Sides → Type 0
TouchesOnly keys sides = (model : ModelNo) (id : RecId) → (row_at sides.before model id ≡ row_at sides.behind model id) ⊎ Contains keys (key_of model id)

-- one of these rows names a row by a field, before a change or behind it
abbrev pub NamesOneSide : List RowKey → Sides → ModelNo → FieldNo → RecId → Type 0
NamesOneSide keys sides model field id = (child : RecId) × Contains keys (key_of model child) × (NamesBy sides.before model field id child ⊎ NamesBy sides.behind model field id child)

-- a field whose value is a list of rows, one of which is among these
abbrev pub IsOfTouchedList : List RowKey → Sides → RecId → FieldInfo → Type 0
IsOfTouchedList keys sides id info = IsSomeAnd (option_or info.inverse info.mirror) (λ back. IsSomeAnd info.relation (λ model. NamesOneSide keys sides model back id))

-- a cell of one of these rows, or one whose list has one of them, before a change or behind it
abbrev pub IsTouched : List ModelInfo → List RowKey → Sides → Cell → Type 0
IsTouched models keys sides cell = Contains keys (key_of cell.model cell.id) ⊎ FieldHas models (IsOfTouchedList keys sides cell.id) cell.model cell.field
