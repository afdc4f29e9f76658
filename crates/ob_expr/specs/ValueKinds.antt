-- Of which kind the values of an expression are.
use Rattle.std.specs.Prelude.{◌≡◌, Option, Ok}
use Rattle.ob_base.specs.declared.id.Cell.{Cell}
use Rattle.ob_base.specs.declared.value.Value.{Value}
use Rattle.ob_expr.specs.declared.row.Row.{Row}
use Rattle.ob_expr.specs.Kinds.{HasKind}
use Rattle.ob_expr.specs.Meaning.{meaning}
use Rattle.ob_expr.specs.Reads.{HoldsKinds}
use Rattle.ob_expr.specs.TypedTree.{TypedTree, IsWellKinded, kind_of}

-- a well kinded expression gives values of its kind, where the fields along its paths hold values of theirs
abbrev pub GivesItsKind : TypedTree → Type 0
GivesItsKind tree = (held : Cell → Option Value) (row : Row) (v : Value) → IsWellKinded tree → HoldsKinds held row.model tree → meaning held row tree ≡ Ok v → HasKind (kind_of tree) v
