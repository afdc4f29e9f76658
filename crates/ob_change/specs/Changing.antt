-- A change of tables, as its tests speak of it.
use Rattle.std.specs.Prelude.{◌↔◌, List, Contains, Option, Some, None}
use Rattle.ob_base.specs.declared.id.Cell.{Cell}
use Rattle.ob_base.specs.declared.refusal.Broken.{Broken}
use Rattle.ob_change.specs.declared.change.Change.{Change}
use Rattle.ob_schema.specs.Broken.{IsBroken}
use Rattle.ob_schema.specs.Links.{Sides}
use Rattle.ob_schema.specs.Tables.{Tables}
use Rattle.ob_schema.specs.declared.info.ModelInfo.{ModelInfo}
use Rattle.ob_trigger.specs.Affected.{Edited}

-- the tables before it and behind it
abbrev pub sides_of : Change → Sides
sides_of change = record { before = change.before.now.tables; behind = change.behind.now.tables }

-- the models over which they stand
abbrev pub models_of : Change → List ModelInfo
models_of change = change.schema.now

-- the cells that it edits, and no others
abbrev pub AreEdited : Change → List Cell → Type 0
AreEdited change cells = (cell : Cell) → Contains cells cell ↔ Edited (models_of change) (sides_of change) cell

-- tests tell something that is broken in tables; or nothing, where they pass
abbrev pub TellsBroken : List ModelInfo → Tables → Type 0 → Option Broken → Type 0
TellsBroken models tables passes (Some broken) = IsBroken models tables broken
TellsBroken models tables passes None = passes
