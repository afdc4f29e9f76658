use Rattle.std.proofs.Common.{◌≡◌, List, length, map, Option, ap, ◌∙◌, append-nil, rules, arith, Ok, Result}
use Rattle.std.proofs.lemmas.Grind.{common_steps}
use Rattle.std.specs.Vec.Iter.{into_iter_items}
use Rattle.ob_expr.specs.declared.checker.TypeFault.{TypeFault}
use Rattle.ob_expr.specs.declared.kind.Kind.TheVariants.{Word}
use Rattle.ob_expr.specs.declared.typed.Typed.{Typed}
use Rattle.ob_expr.specs.Checking.{of_kind}
use Rattle.ob_expr.specs.Told.{part_tree}
use Rattle.ob_expr.specs.TypedTree.{TypedTree, typed_tree_of}
use Rattle.ob_expr.proofs.CallParts.{cat_right, nothing_left}
use Rattle.ob_expr.proofs.Outcomes.{with_left}
use Rattle.ob_expr.proofs.checker.joined.Goals as goal

abbrev texts_are : List TypedTree → Result (List TypedTree) TypeFault
texts_are texts = Ok texts

pub returns : goal.returns
returns c =
    let f = of_kind c.args.at Word in
    let before = map typed_tree_of c.loop-part.texts.items in
    let none : length (into_iter_items c.loop-part.part-iterator) ≡ 0 = first_of (omega arith, search rules, grind (arith, common_steps)) in
    let empty = nothing_left (into_iter_items c.loop-part.part-iterator) none in
    cat_right c.args.at (map part_tree c.args.parts.items) c.loop-part.texts
    (c.loop-part.invariant ∙ ap (λ (left : List (Option Typed)). with_left f before (map part_tree left)) empty ∙ ap texts_are (append-nil before))
