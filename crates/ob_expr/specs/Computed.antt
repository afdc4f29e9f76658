-- What contracts see of a value that was evaluated for a cell (`Fresh`).
use Rattle.ob_base.specs.declared.id.Cell.{Cell}
use Rattle.ob_base.specs.declared.value.Value.{Value}

-- a cell, and the value that was evaluated for it
pub record Computed : Type 0 where
  pub cell : Cell
  pub value : Value
