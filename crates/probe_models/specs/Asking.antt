-- Where a cell may be asked for its value from scratch.
use Rattle.std.specs.Prelude.{List}
use Rattle.ob_base.specs.declared.id.Cell.{Cell}
use Rattle.ob_base.specs.declared.refusal.BrokenKind.{BrokenKind}
use Rattle.ob_schema.specs.declared.info.ModelInfo.{ModelInfo}
use Rattle.ob_schema.specs.Broken.{BreaksAs}
use Rattle.ob_schema.specs.Tables.{Tables}
use Rattle.ob_schema.specs.Tied.{IsTied}

-- where a cell is broken in this way, rows can be followed
abbrev pub ShowsTied : BrokenKind → Type 0
ShowsTied kind = (models : List ModelInfo) (tables : Tables) (cell : Cell) → BreaksAs models tables kind cell → IsTied models tables
