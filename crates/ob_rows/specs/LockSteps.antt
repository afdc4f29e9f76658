-- What the value of a cell is that was settled, where its row is there or not.
use Rattle.std.specs.Prelude.{◌≡◌, List, Option, Some, None, Ok}
use Rattle.ob_base.specs.declared.id.Cell.{Cell}
use Rattle.ob_base.specs.declared.value.Value.{Value}
use Rattle.ob_schema.specs.Tables.{Tables, row_at}
use Rattle.ob_schema.specs.Val.{val}
use Rattle.ob_schema.specs.declared.info.ModelInfo.{ModelInfo}

-- the value of a cell from scratch, or none, where its row isn't there
abbrev pub IsSettledAt : List ModelInfo → Tables → Cell → Option Value → Type 0
IsSettledAt models tables cell None = row_at tables cell.model cell.id ≡ None
IsSettledAt models tables cell (Some v) = val models tables cell ≡ Ok v
