use Rattle.std.proofs.Common.{◌<ℤ◌, pos, arith}
use Rattle.std.proofs.lemmas.Int.{ints}
use Rattle.ob_expr.proofs.Numbers.{rest_is}
use Rattle.ob_expr.proofs.computing.rest.Goals as goal

pub returns-then-right-lt0 : goal.returns-then-right-lt0
returns-then-right-lt0 c =
    let below : c.args.right <ℤ pos 0 = omega (arith, ints) in
    rest_is c.args.left c.args.right c.rem_euclid.result c.ranges.left c.ranges.right below c.rem_euclid.ensures.value c.rem_euclid.ensures.upper_bound
