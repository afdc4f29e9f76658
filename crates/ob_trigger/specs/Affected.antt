-- What a change of tables edits, which computed cells it can reach, and which of them it changes.
use Rattle.std.specs.Prelude.{◌≡◌, ◌≢◌, ◌↔◌, ◌⊎◌, List, true, None, Contains}
use Rattle.ob_base.specs.declared.id.Cell.{Cell}
use Rattle.ob_schema.specs.Chains.{Reaches}
use Rattle.ob_schema.specs.Links.{Sides}
use Rattle.ob_schema.specs.Models.{FieldHas, IsComputedBy, is_computed_from}
use Rattle.ob_schema.specs.Paths.{step_at}
use Rattle.ob_schema.specs.Plain.{plain_at}
use Rattle.ob_schema.specs.ReadCells.{ReadsCell}
use Rattle.ob_schema.specs.Tables.{Tables, row_at}
use Rattle.ob_schema.specs.Tied.{AtCell, IsTied}
use Rattle.ob_schema.specs.Val.{val}
use Rattle.ob_schema.specs.declared.info.FieldInfo.{FieldInfo}
use Rattle.ob_schema.specs.declared.info.Formula.{Formula}
use Rattle.ob_schema.specs.declared.info.ModelInfo.{ModelInfo}
use Rattle.ob_schema.specs.declared.info.Step.{Step}

-- the field of a cell
abbrev pub cell_step : Cell → Step
cell_step cell = step_at cell.model cell.field

-- an expression gives the field's value
abbrev pub IsComputedField : FieldInfo → Type 0
IsComputedField field = is_computed_from field.origin ≡ true

module _ (models : List ModelInfo) where
  -- an expression gives the cell's value, whether its row is there or not
  abbrev pub HasComputedField : Cell → Type 0
  HasComputedField cell = FieldHas models IsComputedField cell.model cell.field

  -- a computed cell reads another: one along a path on which its formula depends, by the plain relations of the tables
  abbrev pub ReadsIn : Tables → Cell → Cell → Type 0
  ReadsIn tables cell other = (formula : Formula) × IsComputedBy models (cell_step cell) formula × ReadsCell (plain_at tables models) formula cell.id other

  module _ (sides : Sides) where
    -- a cell of `id`, of a plain field or of a list that other rows make has another value behind the change than before it, or its row is there on one side alone
    abbrev pub Edited : Cell → Type 0
    Edited cell = plain_at sides.before models cell ≢ plain_at sides.behind models cell

    -- cells that read one another in turn lead from the cell to an edited one
    abbrev pub LeadsToEdited : Tables → Cell → Type 0
    LeadsToEdited tables cell = (other : Cell) × Reaches (ReadsIn tables) cell other × Edited other

    -- a computed cell of a row that is there behind the change: a stored one, one that isn't, or a condition
    abbrev pub IsComputedBehind : Cell → Type 0
    IsComputedBehind cell = AtCell models sides.behind cell IsComputedField

    -- its row isn't there before the change
    abbrev pub HasNewRow : Cell → Type 0
    HasNewRow cell = row_at sides.before cell.model cell.id ≡ None

    -- the change can reach the cell
    abbrev pub Affected : Cell → Type 0
    Affected cell = IsComputedBehind cell × (HasNewRow cell ⊎ (LeadsToEdited sides.before cell ⊎ LeadsToEdited sides.behind cell))

    -- the change gives the cell another value from scratch, or another reason to have none
    abbrev pub Changed : Cell → Type 0
    Changed cell = IsComputedBehind cell × (HasNewRow cell ⊎ (val models sides.before cell ≢ val models sides.behind cell))

    -- a change between tables whose rows can be followed, and the cells that it edits
    pub record IsChange (cells : List Cell) : Type 0 where
      pub before : IsTied models sides.before
      pub behind : IsTied models sides.behind
      pub edited : (cell : Cell) → Contains cells cell ↔ Edited cell
