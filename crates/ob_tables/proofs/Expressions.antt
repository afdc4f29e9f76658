-- What is known of expressions: the laws of ob_expr, for all of them.
use Rattle.ob_expr.specs.Reads.{LacksAlongPaths, ReadsAlongPaths}
use Rattle.ob_expr.specs.TypedTree.{TypedTree}

pub record AreLaws : Type 0 where
  pub along : (tree : TypedTree) → ReadsAlongPaths tree
  pub lacks : (tree : TypedTree) → LacksAlongPaths tree
