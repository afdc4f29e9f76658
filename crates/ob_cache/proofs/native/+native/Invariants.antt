use Rattle.std.proofs.Common.{All, take}
use Rattle.ob_expr.specs.TypedTree.{typed_tree_of}
use Rattle.ob_expr.specs.declared.typed.Typed.{Typed}
use Rattle.ob_cache.specs.Native.{HasNativeConstants}
use Rattle.ob_cache.proofs.native.+native.Given as goal

-- the constants of the parts so far are native
abbrev pub invariant-trees_are_native-loop-part : goal.invariant-trees_are_native-loop-part
invariant-trees_are_native-loop-part l = All (λ (part : Typed). HasNativeConstants (typed_tree_of part)) (take l.part-index l.parts)
