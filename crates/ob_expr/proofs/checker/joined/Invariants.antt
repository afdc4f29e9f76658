use Rattle.std.proofs.Common.{◌≡◌, map}
use Rattle.std.specs.Vec.Iter.{into_iter_items}
use Rattle.ob_expr.specs.declared.kind.Kind.TheVariants.{Word}
use Rattle.ob_expr.specs.Chain.{each}
use Rattle.ob_expr.specs.Checking.{of_kind}
use Rattle.ob_expr.specs.Told.{part_tree}
use Rattle.ob_expr.specs.TypedTree.{typed_tree_of}
use Rattle.ob_expr.proofs.Outcomes.{with_left}
use Rattle.ob_expr.proofs.checker.joined.Given as goal

abbrev pub invariant-loop-part : goal.invariant-loop-part
invariant-loop-part l =
    each (of_kind l.at Word) (map part_tree l.fn.parts.items) ≡ with_left (of_kind l.at Word) (map typed_tree_of l.texts.items) (map part_tree (into_iter_items l.part-iterator))
