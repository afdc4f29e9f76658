-- Values that agree on all that a formula reads.
use Rattle.std.specs.Prelude.{◌≡◌, Result}
use Rattle.std.specs.Result.{result_ok}
use Rattle.ob_base.specs.declared.id.Cell.{Cell}
use Rattle.ob_base.specs.declared.value.Value.{Value}
use Rattle.ob_expr.specs.Computing.{Lack}
use Rattle.ob_expr.specs.Meaning.{row_of}
use Rattle.ob_expr.specs.Reads.{IsAlong}
use Rattle.ob_expr.specs.TypedTree.{typed_tree_of}
use Rattle.ob_schema.specs.declared.info.Formula.{Formula}

-- others are these values on each cell along the paths of a formula
abbrev pub AgreeAlong : (Cell → Result Value Lack) → (Cell → Result Value Lack) → Formula → Cell → Type 0
AgreeAlong values others formula cell = (other : Cell) → IsAlong (λ read. result_ok (values read)) (row_of cell) (typed_tree_of formula.typed) other → others other ≡ values other
