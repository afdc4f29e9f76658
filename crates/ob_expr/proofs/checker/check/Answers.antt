use Rattle.std.proofs.Common.{◌≡◌, Option, Some, Ok, subst}
use Rattle.ob_expr.specs.declared.typed.Typed.{Typed}
use Rattle.ob_expr.specs.Checking.{part_of}
use Rattle.ob_base.specs.Syntax.{tree_of}
use Rattle.ob_expr.specs.Told.{part_tree}
use Rattle.ob_expr.specs.TypedTree.{typed_tree_of}
use Rattle.ob_expr.proofs.Accepted.{part_ok}
use Rattle.ob_expr.proofs.checker.check.Goals as goal

pub returns-clause-kinded : goal.returns-clause-kinded
returns-clause-kinded g c =
    let P : Option Typed → Type 0 = λ part. part_of (g.S.Scope.finds c.args.scope.now) c.args.model (tree_of c.args.expr.now) ≡ Ok (part_tree part) in
    let sound = part_ok (g.S.Scope.finds c.args.scope.now) c.args.model (tree_of c.args.expr.now) (Some (typed_tree_of c.in-Some.typed)) (subst P c.in-Some.is c.in_ok-typed.ensures) in
    sound.0

pub returns-clause-found : goal.returns-clause-found
returns-clause-found g c =
    let P : Option Typed → Type 0 = λ part. part_of (g.S.Scope.finds c.args.scope.now) c.args.model (tree_of c.args.expr.now) ≡ Ok (part_tree part) in
    let sound = part_ok (g.S.Scope.finds c.args.scope.now) c.args.model (tree_of c.args.expr.now) (Some (typed_tree_of c.in-Some.typed)) (subst P c.in-Some.is c.in_ok-typed.ensures) in
    sound.1
