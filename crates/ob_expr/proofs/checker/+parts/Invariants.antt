use Rattle.std.proofs.Common.{◌≡◌, drop, map}
use Rattle.ob_base.specs.declared.syntax.Expr.{Expr}
use Rattle.ob_expr.specs.Chain.{each}
use Rattle.ob_expr.specs.Checking.{part_of}
use Rattle.ob_base.specs.Syntax.{tree_of}
use Rattle.ob_expr.specs.Told.{part_tree}
use Rattle.ob_expr.proofs.Outcomes.{with_left}
use Rattle.ob_expr.proofs.checker.+parts.Given as goal

abbrev pub invariant-check_all-loop-argument : goal.invariant-check_all-loop-argument
invariant-check_all-loop-argument g l =
    each (λ (argument : Expr). part_of (g.S.Scope.finds l.scope) l.model (tree_of argument)) l.arguments
    ≡ with_left (λ (argument : Expr). part_of (g.S.Scope.finds l.scope) l.model (tree_of argument)) (map part_tree l.parts.items) (drop l.argument-index l.arguments)
