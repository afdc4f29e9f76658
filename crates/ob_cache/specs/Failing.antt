-- Private: whether all that a formula reads has values, so that it fails by itself where it has none.
use Rattle.std.specs.Prelude.{⊤, List, Option, IsSome}
use Rattle.std.specs.Result.{result_ok}
use Rattle.ob_base.specs.declared.id.Cell.{Cell}
use Rattle.ob_base.specs.declared.id.FieldNo.{FieldNo}
use Rattle.ob_base.specs.declared.refusal.BrokenKind.TheVariants as kind
use Rattle.ob_base.specs.declared.value.Value.{Value}
use Rattle.ob_cache.specs.declared.failing.Step.{Step}
use Rattle.ob_cache.specs.declared.failing.Step.TheVariants as step
use Rattle.ob_expr.specs.Meaning.{row_of}
use Rattle.ob_expr.specs.Reads.{IsAlong, IsAlongPath}
use Rattle.ob_expr.specs.TypedTree.{typed_tree_of}
use Rattle.ob_expr.specs.declared.row.Row.{Row}
use Rattle.ob_expr.specs.declared.typed.Link.{Link}
use Rattle.ob_schema.specs.Tables.{Tables}
use Rattle.ob_schema.specs.Val.{val}
use Rattle.ob_schema.specs.declared.info.Formula.{Formula}
use Rattle.ob_schema.specs.declared.info.ModelInfo.{ModelInfo}
use Rattle.ob_sound.specs.FormulasBreak.{FormulasBreak}
use Rattle.ob_tables.specs.declared.fault.ScratchFault.{ScratchFault}
use Rattle.ob_tables.specs.declared.fault.ScratchFault.TheVariants as scratch

-- why a cell has no value that lacks it by its own doing
abbrev pub step_by : ScratchFault → Step
step_by scratch.Overflow = step.Fails kind.Overflow
step_by scratch.TooLong = step.Fails kind.TooLong
step_by scratch.ZeroDivisor = step.Fails kind.ZeroDivisor
step_by _ = step.Ends

module _ (models : List ModelInfo) (tables : Tables) where
  -- what a cell holds, where it has a value from scratch
  abbrev pub held_in : Cell → Option Value
  held_in cell = result_ok (val models tables cell)

  -- each cell along a path has a value
  abbrev pub HasAlong : Row → List Link → FieldNo → Type 0
  HasAlong row links field = (cell : Cell) → IsAlongPath held_in row links field cell → IsSome (held_in cell)

  -- each cell that a formula reads has one, as a fact that stands in itself in proofs
  unfoldable pub HasRead : Formula → Cell → Type 0
  HasRead formula cell = (other : Cell) → IsAlong held_in (row_of cell) (typed_tree_of formula.typed) other → IsSome (held_in other)

  -- a cell whose own formula fails is broken so; nothing is said of what it reads
  abbrev pub TellsStep : Cell → Step → Type 0
  TellsStep cell (step.Fails kind) = FormulasBreak models tables kind cell
  TellsStep cell _ = ⊤
