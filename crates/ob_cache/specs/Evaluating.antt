-- What a settle evaluates.
use Rattle.std.specs.Prelude.{List, All, Contains}
use Rattle.ob_base.specs.declared.id.Cell.{Cell}
use Rattle.ob_schema.specs.Links.{Sides}
use Rattle.ob_schema.specs.declared.info.ModelInfo.{ModelInfo}
use Rattle.ob_trigger.specs.Affected.{Affected, Changed}
use Rattle.ob_trigger.specs.CellSets.{CellsRise}

-- these cells were evaluated, each once: the edits between the two sides can reach each of them, and where they are settled each that they change is among them
pub record AreEvaluated (models : List ModelInfo) (sides : Sides) (are_settled : Type 0) (cells : List Cell) : Type 0 where
  pub once : CellsRise cells
  pub affected : All (Affected models sides) cells
  pub changed : are_settled → (cell : Cell) → Changed models sides cell → Contains cells cell
