use Rattle.std.proofs.Common.{All, List, [], ◌∷◌, suc, subst, sym, arith, Vec, Global}
use Rattle.std.proofs.lemmas.List.{take_all}
use Rattle.std.proofs.lemmas.List.Elements.{All-more}
use Rattle.ob_expr.proofs.CallerLemmas.{trees_of, typed_tree_of-Joined}
use Rattle.ob_expr.specs.TypedTree.{typed_tree_of}
use Rattle.ob_expr.specs.declared.typed.Typed.{Typed, Joined}
use Rattle.ob_cache.specs.Native.{HasNativeConstants, HaveNativeConstants}
use Rattle.ob_cache.proofs.native.+native.Goals as goal

parts-native : (parts : List Typed) → All (λ (part : Typed). HasNativeConstants (typed_tree_of part)) parts → HaveNativeConstants (trees_of parts)
parts-native [] all = tt
parts-native (part ∷ parts) all = (all 0 part (omega arith), parts-native parts (λ k d lt. all (suc k) d (omega arith)))

joined-native : (parts : Vec Typed Global) → All (λ (part : Typed). HasNativeConstants (typed_tree_of part)) parts.items → HasNativeConstants (typed_tree_of (Joined parts))
joined-native parts all = subst HasNativeConstants (sym (typed_tree_of-Joined parts)) (parts-native parts.items all)

pub tree_is_native-returns-in-Joined : goal.tree_is_native-returns-in-Joined
tree_is_native-returns-in-Joined t c =
    subst (λ (typed : Typed). HasNativeConstants (typed_tree_of typed)) (sym c.in-Joined.is)
    (joined-native c.in-Joined.parts (subst (All (λ (part : Typed). HasNativeConstants (typed_tree_of part))) c.deref-in-Joined.ensures.value c.trees_are_native.ensures))

pub trees_are_native-loop-part-preserved : goal.trees_are_native-loop-part-preserved
trees_are_native-loop-part-preserved t c =
    All-more (λ (part : Typed). HasNativeConstants (typed_tree_of part)) c.args.parts.now c.loop-part.part-index c.part-item.result c.loop-part-test.true c.loop-part.invariant
    (subst (λ (part : Typed). HasNativeConstants (typed_tree_of part)) c.part-item.is c.tree_is_native.ensures)

pub trees_are_native-returns : goal.trees_are_native-returns
trees_are_native-returns t c =
    subst (All (λ (part : Typed). HasNativeConstants (typed_tree_of part))) (take_all c.loop-part.part-index c.args.parts.now c.loop-part-test.false) c.loop-part.invariant
