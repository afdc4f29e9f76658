use Rattle.std.proofs.Common.{◌≡◌, ◌++◌, map, take}
use Rattle.std.specs.List.{flat_map}
use Rattle.ob_expr.specs.declared.typed.Typed.{Typed}
use Rattle.ob_expr.specs.Route.{behind}
use Rattle.ob_expr.specs.TypedTree.{paths_of, typed_tree_of}
use Rattle.ob_expr.proofs.+adding.Given as goal

abbrev pub invariant-paths::add_paths_of-loop-part : goal.invariant-paths::add_paths_of-loop-part
invariant-paths::add_paths_of-loop-part l =
    l.paths.items ≡ l.fn.paths.items ++ flat_map (λ (part : Typed). map (behind l.before) (paths_of (typed_tree_of part))) (take l.part-index l.parts)
