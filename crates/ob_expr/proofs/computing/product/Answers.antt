use Rattle.ob_expr.proofs.Numbers.{product_is}
use Rattle.ob_expr.proofs.computing.product.Goals as goal

pub returns : goal.returns
returns c = product_is c.args.left c.args.right c.ranges.left c.ranges.right
