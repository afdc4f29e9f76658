-- What the faults of calls say of tables.
use Rattle.std.specs.Prelude.{◌≡◌, ⊤, List, None, Err}
use Rattle.ob_base.specs.declared.id.Cell.{Cell}
use Rattle.ob_expr.specs.Computing.{overflow, too_long, zero_divisor}
use Rattle.ob_schema.specs.declared.info.ModelInfo.{ModelInfo}
use Rattle.ob_tables.specs.declared.fault.ScratchFault.{ScratchFault}
use Rattle.ob_tables.specs.declared.fault.ScratchFault.TheVariants as scratch
use Rattle.ob_schema.specs.Tables.{Tables, row_at}
use Rattle.ob_schema.specs.Val.{val}

module _ (models : List ModelInfo) (tables : Tables) where
  -- the fault of a cell without a value: its row isn't there, or what it lacks
  abbrev pub HasNoValue : Cell → ScratchFault → Type 0
  HasNoValue cell scratch.Missing = row_at tables cell.model cell.id ≡ None
  HasNoValue cell scratch.Overflow = val models tables cell ≡ Err overflow
  HasNoValue cell scratch.TooLong = val models tables cell ≡ Err too_long
  HasNoValue cell scratch.ZeroDivisor = val models tables cell ≡ Err zero_divisor
  HasNoValue cell scratch.NoMemory = ⊤
