-- The value of a cell from scratch, as a fact that stands in itself in proofs.
use Rattle.std.specs.Prelude.{◌≡◌, List, Ok}
use Rattle.ob_base.specs.declared.id.Cell.{Cell}
use Rattle.ob_base.specs.declared.value.Value.{Value}
use Rattle.ob_schema.specs.Tables.{Tables}
use Rattle.ob_schema.specs.Val.{val}
use Rattle.ob_schema.specs.declared.info.ModelInfo.{ModelInfo}

-- the cell has this value from scratch
unfoldable pub HasScratch : List ModelInfo → Tables → Cell → Value → Type 0
HasScratch models tables cell v = val models tables cell ≡ Ok v
