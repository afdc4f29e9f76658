use Rattle.std.proofs.Common.{◌≤◌, ◌∷◌, arith}
use Rattle.ob_base.specs.Limits.{max_expression_depth}
use Rattle.ob_syntax.specs.Parsing.{least}
use Rattle.ob_syntax.specs.Waits.{all_pending, pending}
use Rattle.ob_syntax.proofs.Depths.{least-alone}
use Rattle.ob_syntax.proofs.stack.Stack.close.Goals as goal

pub closed-requires : goal.closed-requires
closed-requires c =
    let fits : least (pending c.in-Some.frame ∷ all_pending c.pop.new.self) c.loop-alloc.operand.deep ≤ max_expression_depth = rw c.in-Some.ensures at c.loop-alloc.invariant.fits in
    omega (arith, fits, least-alone (pending c.in-Some.frame) (all_pending c.pop.new.self) c.loop-alloc.operand.deep)
