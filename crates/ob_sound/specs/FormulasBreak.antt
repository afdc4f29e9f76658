-- What formulas break: a computed cell that has no value by its own fault, and a check that is false.
use Rattle.std.specs.Prelude.{List, Contains}
use Rattle.ob_base.specs.declared.id.Cell.{Cell}
use Rattle.ob_base.specs.declared.refusal.BrokenKind.{BrokenKind}
use Rattle.ob_base.specs.declared.refusal.BrokenKind.TheVariants as kind
use Rattle.ob_expr.specs.Computing.{overflow, too_long, zero_divisor}
use Rattle.ob_schema.specs.Broken.{FailsItself, IsFalseCheck}
use Rattle.ob_schema.specs.Tables.{Tables}
use Rattle.ob_schema.specs.declared.info.ModelInfo.{ModelInfo}

module _ (models : List ModelInfo) (tables : Tables) where
  -- what formulas give breaks a cell in this way
  abbrev pub FormulasBreak : BrokenKind → Cell → Type 0
  FormulasBreak kind.Overflow cell = FailsItself models tables overflow cell
  FormulasBreak kind.TooLong cell = FailsItself models tables too_long cell
  FormulasBreak kind.ZeroDivisor cell = FailsItself models tables zero_divisor cell
  FormulasBreak kind.Check cell = IsFalseCheck models tables cell
  FormulasBreak _ cell = ⊥

  -- they break none of these cells
  abbrev pub FormulasPass : List Cell → Type 0
  FormulasPass cells = (broken : BrokenKind) (cell : Cell) → Contains cells cell → FormulasBreak broken cell → ⊥
