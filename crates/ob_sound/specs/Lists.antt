-- Lists of the rows that name a row: where a change leaves them as they were.
use Rattle.std.specs.Prelude.{◌≡◌, ◌↔◌, IsSomeAnd, true}
use Rattle.std.specs.Option.{option_or}
use Rattle.ob_base.specs.declared.id.FieldNo.{FieldNo}
use Rattle.ob_base.specs.declared.id.ModelNo.{ModelNo}
use Rattle.ob_base.specs.declared.id.RecId.{RecId}
use Rattle.ob_schema.specs.Links.{Sides}
use Rattle.ob_schema.specs.Plain.{names}
use Rattle.ob_schema.specs.Tables.{Tables, kept_in, row_at}
use Rattle.ob_schema.specs.declared.info.FieldInfo.{FieldInfo}

-- a row of a model is there, and names another by a field
abbrev pub NamesBy : Tables → ModelNo → FieldNo → RecId → RecId → Type 0
NamesBy tables model field id child = IsSomeAnd (row_at tables model child) (λ row. names id (kept_in row field) ≡ true)

-- each row of the model names it by the field on both sides, or on none
abbrev pub IsNamedAlike : Sides → ModelNo → FieldNo → RecId → Type 0
IsNamedAlike sides model field id = (child : RecId) → NamesBy sides.before model field id child ↔ NamesBy sides.behind model field id child

-- a field whose value is a list of rows, each of which names the row by the field back on both sides or on none
abbrev pub IsOfUneditedList : Sides → RecId → FieldInfo → Type 0
IsOfUneditedList sides id info = IsSomeAnd (option_or info.inverse info.mirror) (λ back. IsSomeAnd info.relation (λ model. IsNamedAlike sides model back id))
