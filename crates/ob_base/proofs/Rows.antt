-- The arguments of a call in the code, as a list.
use Rattle.std.proofs.Common.{◌≡◌, List, map, refl, ap, ◌∙◌}
use Rattle.std.specs.declared.alloc.Global.{Global}
use Rattle.std.specs.declared.vec.Vec.{Vec}
use Rattle.ob_base.specs.declared.syntax.Expr.{Expr, Row_of-Expr, end_of-Expr, more_of-Expr, items-the_row-Expr, items_hidden-the_row-Expr-0}
use Rattle.ob_base.specs.declared.syntax.Expr.TheBlock.{hidden-the_row-Expr-0}
use Rattle.ob_base.specs.Syntax.{given_before, no_arguments, argument, tree_of, arguments_of}

arguments_of-row : {m : _} (row : Row_of-Expr m) → arguments_of row ≡ given_before (map tree_of (items-the_row-Expr m row)) no_arguments
arguments_of-row end_of-Expr = refl
arguments_of-row (more_of-Expr expr rest) = ap (argument (tree_of expr)) (arguments_of-row rest)

pub arguments_of-items : (given : Vec Expr Global) → arguments_of (hidden-the_row-Expr-0 given) ≡ given_before (map tree_of given.items) no_arguments
arguments_of-items given = arguments_of-row (hidden-the_row-Expr-0 given) ∙ ap (λ (items : List Expr). given_before (map tree_of items) no_arguments) (items_hidden-the_row-Expr-0 given)
