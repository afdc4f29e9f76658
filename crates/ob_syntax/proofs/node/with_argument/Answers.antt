use Rattle.std.proofs.Common.{◌∷◌, [], map, arith}
use Rattle.std.proofs.lemmas.List.{map-append}
use Rattle.ob_base.specs.Syntax.{tree_of}
use Rattle.ob_syntax.proofs.Spelling.{deepest_of-more}
use Rattle.ob_syntax.proofs.node.with_argument.Goals as goal

pub invariant_of-result : goal.invariant_of-result
invariant_of-result c = record {
  counted =
      rw (c.in_ok-push.ensures.items, map-append tree_of c.args.call.arguments.items (c.args.argument.expr ∷ []), deepest_of-more (map tree_of c.args.call.arguments.items) (tree_of c.args.argument.expr))
      (omega (arith, c.max.ensures, c.args.call.counted, c.args.argument.counted));
}
