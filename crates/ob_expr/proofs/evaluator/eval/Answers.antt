use Rattle.std.proofs.Common.{◌≡◌, Ok, subst}
use Rattle.ob_expr.specs.declared.row.Row.{Row}
use Rattle.ob_expr.specs.Meaning.{meaning, row_of}
use Rattle.ob_expr.specs.TypedTree.{typed_tree_of}
use Rattle.ob_expr.proofs.KindsOf.{meaning-kind}
use Rattle.ob_expr.proofs.evaluator.eval.Goals as goal

pub returns-clause-kind : goal.returns-clause-kind
returns-clause-kind g c =
    let P : Row → Type 0 = λ r. meaning (g.R.Reads.held c.args.reads.now) r (typed_tree_of c.args.typed.now) ≡ Ok c.in_ok-value.value in
    meaning-kind (g.R.Reads.held c.args.reads.now) (row_of c.args.cell) (typed_tree_of c.args.typed.now) c.in_ok-value.value c.requires.kinded c.requires.held
    (subst P c.of.ensures c.in_ok-value.ensures.told)
