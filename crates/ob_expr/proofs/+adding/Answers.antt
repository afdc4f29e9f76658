use Rattle.std.proofs.Common.{◌≡◌, ◌≤◌, [], ◌∷◌, ◌++◌, length, map, sym, ap, ◌∙◌, arith}
use Rattle.std.proofs.lemmas.Result.{IfOk-equal}
use Rattle.std.specs.List.{flat_map}
use Rattle.ob_expr.specs.declared.typed.Typed.{Typed}
use Rattle.ob_expr.specs.Route.{behind, through}
use Rattle.ob_expr.specs.TypedTree.{paths_of, typed_tree_of}
use Rattle.ob_expr.proofs.Behind.{joined-behind, over-behind, part-behind, part_paths, parts-behind}
use Rattle.ob_expr.proofs.+adding.Goals as goal

pub paths::add_paths_of-loop-part-preserved : goal.paths::add_paths_of-loop-part-preserved
paths::add_paths_of-loop-part-preserved t c =
    c.in_ok-add_paths.ensures
    ∙ part-behind (part_paths c.args.before.now) c.args.paths.now.items c.loop-part.paths.items c.args.parts.now c.loop-part.part-index c.part-item.result
    c.loop-part-test.true c.part-item.is c.loop-part.invariant

pub paths::add_paths_of-returns : goal.paths::add_paths_of-returns
paths::add_paths_of-returns t c =
    let le : length c.args.parts.now ≤ c.loop-part.part-index = omega arith in
    parts-behind (part_paths c.args.before.now) c.args.paths.now.items c.loop-part.paths.items c.args.parts.now c.loop-part.part-index le c.loop-part.invariant

pub typed::Typed::add_paths-returns-in-Joined : goal.typed::Typed::add_paths-returns-in-Joined
typed::Typed::add_paths-returns-in-Joined t c =
    let old = c.args.paths.now.items in
    let before = c.args.before.now in
    IfOk-equal c.add_paths_of.result c.add_paths_of.new.paths.items (old ++ flat_map (part_paths before) c.deref-in-Joined.result.now) (old ++ part_paths before c.args.self.now)
    c.add_paths_of.ensures
    (joined-behind before old c.in-Joined.parts c.deref-in-Joined.result.now c.deref-in-Joined.ensures.value ∙ ap (λ (x : Typed). old ++ part_paths before x) (sym c.in-Joined.is))

pub typed::Typed::add_paths-returns-in_ok-push-in-Over : goal.typed::Typed::add_paths-returns-in_ok-push-in-Over
typed::Typed::add_paths-returns-in_ok-push-in-Over t c =
    let old = c.args.paths.now.items in
    let before = c.args.before.now in
    let one = c.push-in-Over.new.self.items in
    let slice = c.as_slice.result.now in
    let first = c.in_ok-behind-in-Over.field-0 in
    let same : c.deref-in-Over.result.now ≡ c.in-Over.inner.value = c.deref-in-Over.ensures in
    let there : c.as_slice.result.now ≡ c.args.before.now ++ through c.in-Over.path c.in-Over.target = c.as_slice.ensures.value ∙ c.in_ok-links-in-Over.ensures in
    let with_first : c.push-in-Over.new.self.items ≡ c.args.paths.now.items ++ c.in_ok-behind-in-Over.field-0 ∷ [] = c.in_ok-push-in-Over.ensures.items in
    IfOk-equal c.add_paths-in-Over.result c.add_paths-in-Over.new.paths.items (one ++ map (behind slice) (paths_of (typed_tree_of c.deref-in-Over.result.now))) (old ++ part_paths before c.args.self.now)
    c.add_paths-in-Over.ensures
    (ap (λ (x : Typed). one ++ map (behind slice) (paths_of (typed_tree_of x))) same
    ∙ (over-behind before c.in-Over.path first c.in-Over.target old one (paths_of (typed_tree_of c.in-Over.inner.value)) slice there c.in_ok-behind-in-Over.ensures with_first
    ∙ ap (λ (x : Typed). old ++ part_paths before x) (sym c.in-Over.is)))
