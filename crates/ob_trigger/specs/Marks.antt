-- Private: cells that are marked, and those of which it isn't known yet what reads them.
use Rattle.std.specs.Prelude.{◌≡◌, ◌↔◌, ◌⊎◌, ◌+◌, ◌≤◌, List, Bool, true, false, Any, Contains, length}
use Rattle.std.specs.BTreeSet as sorted
use Rattle.ob_base.specs.BrokenOrder.{cell_order}
use Rattle.ob_base.specs.declared.id.Cell.{Cell}
use Rattle.ob_schema.specs.Chains.{Reaches}
use Rattle.ob_schema.specs.Links.{Sides}
use Rattle.ob_schema.specs.Models.{FieldHas, is_id_from}
use Rattle.ob_schema.specs.declared.info.ModelInfo.{ModelInfo}
use Rattle.ob_trigger.specs.Affected.{HasComputedField, ReadsIn}

abbrev pub has_mark : sorted.BTreeSet Cell → Cell → Bool
has_mark marked cell = sorted.contains cell_order marked cell

abbrev pub HasMark : sorted.BTreeSet Cell → Cell → Type 0
HasMark marked cell = has_mark marked cell ≡ true

-- the cells with a property were marked, and those of them that weren't wait
pub record MarksMore (old new : sorted.BTreeSet Cell) (before now : List Cell) (P : Cell → Type 0) : Type 0 where
  pub marked : (cell : Cell) → HasMark new cell ↔ (HasMark old cell ⊎ P cell)
  pub waiting : (cell : Cell) → Contains now cell ↔ (Contains before cell ⊎ (HasMark new cell × (has_mark old cell ≡ false)))

-- as many more wait as are marked
abbrev pub KeepsCount : sorted.BTreeSet Cell → sorted.BTreeSet Cell → List Cell → List Cell → Type 0
KeepsCount old new before now = (length now + length old.keys ≡ length before + length new.keys) × (length old.keys ≤ length new.keys)

-- marks are of computed fields, beside those that were there
abbrev pub MarksComputed : List ModelInfo → sorted.BTreeSet Cell → sorted.BTreeSet Cell → Type 0
MarksComputed models old new = (cell : Cell) → HasMark new cell → HasMark old cell ⊎ HasComputedField models cell

-- each marked cell leads to an edited one, and each that reads an edited or a marked one is marked
pub record IsClosure (models : List ModelInfo) (sides : Sides) (edited : List Cell) (marked : sorted.BTreeSet Cell) : Type 0 where
  pub right : (cell : Cell) → HasMark marked cell → (other : Cell) × Reaches (ReadsIn models sides.before) cell other × Contains edited other
  pub closed : (cell other : Cell) → ReadsIn models sides.before cell other → Contains edited other ⊎ HasMark marked other → HasMark marked cell

-- the cell `id` of the same row
abbrev pub IsIdBeside : List ModelInfo → Cell → Cell → Type 0
IsIdBeside models cell own = (own.model ≡ cell.model) × (own.id ≡ cell.id) × FieldHas models (λ field. is_id_from field.origin ≡ true) own.model own.field

-- a computed cell of a row whose `id` is edited
abbrev pub IsInEditedRow : List ModelInfo → List Cell → Cell → Type 0
IsInEditedRow models edited cell = HasComputedField models cell × Any (IsIdBeside models cell) edited
