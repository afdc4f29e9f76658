-- Rows that go, as the steps have them.
use Rattle.std.specs.Prelude.{◌≡◌, ◌≤◌, ◌+◌, List, All, length}
use Rattle.ob_base.specs.declared.id.Cell.{Cell}
use Rattle.ob_base.specs.declared.id.RowKey.{RowKey}
use Rattle.ob_cache.specs.Stages.{IsKeptRelation}
use Rattle.ob_effect.specs.declared.deletion.Deletion.{Deletion}
use Rattle.ob_schema.specs.Models.{FieldHas, HasModel}
use Rattle.ob_schema.specs.declared.info.ModelInfo.{ModelInfo}
use Rattle.ob_tables.specs.Fitting.{IsFitId}

module _ (models : List ModelInfo) where
  -- a row of the models that may go
  abbrev pub IsFitRow : RowKey → Type 0
  IsFitRow row = HasModel models row.model × IsFitId row.id

  -- a cell of a relation that rows keep
  abbrev pub IsFitCell : Cell → Type 0
  IsFitCell cell = FieldHas models IsKeptRelation cell.model cell.field × IsFitId cell.id

  abbrev pub AreFitRows : List RowKey → Type 0
  AreFitRows rows = All IsFitRow rows

  abbrev pub AreFitCells : List Cell → Type 0
  AreFitCells cells = All IsFitCell cells

  -- rows and cells of the models are added, and as many more rows wait as are taken
  pub record TakesFit (old new : Deletion) (before now : List RowKey) : Type 0 where
    pub rows : AreFitRows old.rows.items → AreFitRows new.rows.items
    pub cells : AreFitCells old.cells.items → AreFitCells new.cells.items
    pub count : length now + length old.taken.keys ≡ length before + length new.taken.keys
    pub more : length old.taken.keys ≤ length new.taken.keys
