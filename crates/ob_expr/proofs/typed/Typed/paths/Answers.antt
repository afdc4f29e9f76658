use Rattle.std.proofs.Common.{List, [], ◌++◌, map, ap, ◌∙◌}
use Rattle.ob_expr.specs.Route.{Route, behind}
use Rattle.ob_expr.specs.TypedTree.{paths_of, typed_tree_of}
use Rattle.ob_expr.proofs.Behind.{behind-nothing}
use Rattle.ob_expr.proofs.typed.Typed.paths.Goals as goal

pub returns : goal.returns
returns c =
    let all = paths_of (typed_tree_of c.args.self.now) in
    c.in_ok-add_paths.ensures ∙ (ap (λ (rs : List Route). rs ++ map (behind []) all) c.new-paths.ensures.items ∙ behind-nothing all)
