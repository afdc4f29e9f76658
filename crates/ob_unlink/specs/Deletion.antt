-- Which rows go where some are deleted, what becomes of the cells that name them, and what keeps them from going.
use Rattle.std.specs.Prelude.{◌≡◌, ◌&&◌, List, filter, not, Bool, true, false, Contains, Some, option_map, IsSomeAnd, if◌then◌else◌}
use Rattle.std.specs.Option.{option_map_or}
use Rattle.ob_base.specs.declared.id.Cell.{Cell}
use Rattle.ob_base.specs.declared.id.RecId.{RecId}
use Rattle.ob_base.specs.declared.id.RowKey.{RowKey}
use Rattle.ob_base.specs.declared.refusal.Broken.{Broken}
use Rattle.ob_base.specs.declared.refusal.BrokenKind.{BrokenKind}
use Rattle.ob_base.specs.declared.refusal.BrokenKind.TheVariants as kind
use Rattle.ob_base.specs.declared.value.Value.{Value}
use Rattle.ob_base.specs.declared.value.Value.TheVariants as value
use Rattle.ob_definition.specs.declared.field_type.FieldType.TheVariants as type
use Rattle.ob_definition.specs.declared.field_type.OnDelete.{OnDelete}
use Rattle.ob_definition.specs.declared.field_type.OnDelete.TheVariants as ondelete
use Rattle.ob_rows.specs.Lasting.{Lasts}
use Rattle.ob_rows.specs.Locks.{IsLocked, told_field}
use Rattle.ob_schema.specs.Fields.{is_plain_kept}
use Rattle.ob_schema.specs.Models.{FieldHas, field_at, is_id_from, model_at}
use Rattle.ob_schema.specs.Plain.{names}
use Rattle.ob_schema.specs.Tables.{Tables, key_of, kept_at}
use Rattle.ob_schema.specs.declared.info.FieldInfo.{FieldInfo}
use Rattle.ob_schema.specs.declared.info.ModelInfo.{ModelInfo}
use Rattle.ob_tables.specs.Changes.{has_row}

-- the row of a cell
abbrev pub row_of_cell : Cell → RowKey
row_of_cell cell = key_of cell.model cell.id

-- a cell names a row: by a plain relation to its model that the cell's row keeps, as the one row or among those of a list
pub record NamesRow (models : List ModelInfo) (tables : Tables) (cell : Cell) (row : RowKey) : Type 0 where
  pub leads : FieldHas models (λ field. (is_plain_kept field ≡ true) × (field.relation ≡ Some row.model)) cell.model cell.field
  pub named : IsSomeAnd (kept_at tables cell) (λ v. names row.id v ≡ true)

-- a many2one that does this where the row that it names goes
abbrev pub DoesAt : OnDelete → FieldInfo → Type 0
DoesAt action field = (field.field_type ≡ type.Many2one) × (field.ondelete ≡ action)

-- the cell is one of such a many2one
abbrev pub HasAction : List ModelInfo → OnDelete → Cell → Type 0
HasAction models action cell = FieldHas models (DoesAt action) cell.model cell.field

-- the rows that go with some: those, and each row that names one of all these by a many2one with `cascade`
pub data IsDeleted (models : List ModelInfo) (tables : Tables) (some : List RowKey) : RowKey → Type 0 where
  is_named : (row : RowKey) → Contains some row → IsDeleted models tables some row
  is_cascaded : (cell : Cell) (row : RowKey) → IsDeleted models tables some row → NamesRow models tables cell row → HasAction models ondelete.Cascade cell
      → IsDeleted models tables some (row_of_cell cell)

-- whether a field leads to a row that goes
abbrev pub leads_to_gone : (RowKey → Bool) → FieldInfo → RecId → Bool
leads_to_gone gone field id = option_map_or (λ model. gone (key_of model id)) field.relation false

-- whether a many2one is unset where the row that it names goes
abbrev pub is_unset : OnDelete → Bool
is_unset ondelete.SetNull = true
is_unset _ = false

-- what is left of a value where some of the rows that it may name go: a many2one with `set null` is unset, a list has the others, and all else stays
abbrev pub left_of : (RecId → Bool) → OnDelete → Value → Value
left_of goes action (value.Ref id) = if goes id && is_unset action then value.Nil else value.Ref id
left_of goes action (value.Refs ids) = value.Refs (filter (λ id. not (goes id)) ids)
left_of goes action v = v

-- what is left of the value of a cell
abbrev pub left_at : List ModelInfo → (RowKey → Bool) → Cell → Value → Value
left_at models gone cell v = option_map_or (λ field. left_of (leads_to_gone gone field) field.ondelete v) (field_at models cell.model cell.field) v

-- tables once the rows are gone: the other rows are there, with what is left of each of their values, and no next id changes
pub record AreLeft (models : List ModelInfo) (gone : RowKey → Bool) (old new : Tables) : Type 0 where
  pub rows : (row : RowKey) → has_row new row ≡ (has_row old row && not (gone row))
  pub values : (cell : Cell) → gone (row_of_cell cell) ≡ false → kept_at new cell ≡ option_map (left_at models gone cell) (kept_at old cell)
  pub next_ids : new.next_ids ≡ old.next_ids

module _ (models : List ModelInfo) (old : Tables) (gone : RowKey → Bool) where
  -- a row that stays names one that goes by a many2one with `restrict`
  pub record IsRestricted (cell : Cell) : Type 0 where
    pub stays : gone (row_of_cell cell) ≡ false
    pub action : HasAction models ondelete.Restrict cell
    pub row : RowKey
    pub named : NamesRow models old cell row
    pub goes : gone row ≡ true

  -- the id of a row that goes, and that no call deletes
  pub record IsOfLasting (cell : Cell) : Type 0 where
    pub goes : gone (row_of_cell cell) ≡ true
    pub lasts : Lasts models (row_of_cell cell)
    pub is_id : FieldHas models (λ field. is_id_from field.origin ≡ true) cell.model cell.field

  -- a row that goes, and was locked
  pub record IsOfLocked (cell : Cell) : Type 0 where
    pub goes : gone (row_of_cell cell) ≡ true
    pub locked : IsLocked models old (row_of_cell cell)
    pub told : IsSomeAnd (model_at models cell.model) (λ info. told_field info ≡ Some cell.field)

  -- a cell keeps rows from going in this way
  abbrev pub BarsAs : BrokenKind → Cell → Type 0
  BarsAs kind.Restrict cell = IsRestricted cell
  BarsAs kind.Managed cell = IsOfLasting cell
  BarsAs kind.Locked cell = IsOfLocked cell
  BarsAs _ cell = ⊥

  -- what a deletion breaks beside what the tables once the rows are gone break
  abbrev pub Bars : Broken → Type 0
  Bars broken = BarsAs broken.kind broken.cell
