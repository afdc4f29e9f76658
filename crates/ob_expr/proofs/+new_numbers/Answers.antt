use Rattle.std.proofs.Common.{◌≡◌, ◌≢◌, ◌<◌, ◌≤◌, length, map, Vec, Global, sym, ap, ◌∙◌, arith}
use Rattle.std.proofs.lemmas.List.{get_or-set_other, length-set, with_items_is}
use Rattle.std.specs.Vec.{with_items}
use Rattle.ob_expr.specs.declared.typed.Typed.{Typed, the_lemmas}
use Rattle.ob_expr.specs.TypedTree.{typed_tree_of}
use Rattle.ob_expr.proofs.Renumbered.{joined-other, left_set, other_tree, parts-end, parts-more}
use Rattle.ob_expr.proofs.+new_numbers.Goals as goal

pub paths::renumber_parts-loop-part-preserved : goal.paths::renumber_parts-loop-part-preserved
paths::renumber_parts-loop-part-preserved g t c =
    let r = g.N.Renumbering.renumbers c.args.numbers.now in
    let i = c.loop-part.part-index in
    let now = c.loop-part.parts in
    let old = c.args.parts.now in
    let y = c.renumber.new.self in
    let lt : c.loop-part.part-index < length c.loop-part.parts = omega arith in
    let within : c.loop-part.part-index < length c.args.parts.now = omega arith in
    let left = c.loop-part.invariant.left in
    record {
      told = c.loop-part.invariant.told ∙ parts-more r c.args.model old now i c.part-item.result y lt within left c.part-item.is
          (c.renumber.ensures ∙ ap (other_tree r c.args.model) (sym c.part-item.is));
      left = left_set now old i c.part-item.result y lt within left;
      unvisited = (
        length-set now i y ∙ c.loop-part.invariant.unvisited.0,
        λ k d le.
            let ne : k ≢ c.loop-part.part-index = omega arith in
            get_or-set_other now i k y d ne ∙ c.loop-part.invariant.unvisited.1 k d (omega arith),
      );
    }

pub paths::renumber_parts-returns : goal.paths::renumber_parts-returns
paths::renumber_parts-returns g t c =
    let le : length c.loop-part.parts ≤ c.loop-part.part-index = omega arith in
    let past : length c.args.parts.now ≤ c.loop-part.part-index = omega arith in
    sym (c.loop-part.invariant.told
    ∙ parts-end (g.N.Renumbering.renumbers c.args.numbers.now) c.args.model c.args.parts.now c.loop-part.parts c.loop-part.part-index le past)

pub typed::Typed::renumber-returns-in-Joined : goal.typed::Typed::renumber-returns-in-Joined
typed::Typed::renumber-returns-in-Joined g t c =
    let r = g.N.Renumbering.renumbers c.args.numbers.now in
    let value = c.as_mut_slice.ensures.value ∙ ap (λ (v : Vec Typed Global). v.items) c.in-Joined.parts-is in
    let long = c.as_mut_slice.ensures.len ∙ ap (λ (v : Vec Typed Global). v.len) c.in-Joined.parts-is in
    let len : length c.renumber_parts.new.parts ≡ c.in-Joined.parts.len = omega (arith, long) in
    let is = ap (map typed_tree_of) (with_items_is c.in-Joined.parts c.renumber_parts.new.parts len) ∙ (c.renumber_parts.ensures ∙ ap (map (other_tree r c.args.model)) value) in
    let e = joined-other r c.args.model c.in-Joined.parts (with_items c.in-Joined.parts c.renumber_parts.new.parts) is in
    rw c.in-Joined.is (simp the_lemmas e)
