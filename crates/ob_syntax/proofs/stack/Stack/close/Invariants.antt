use Rattle.std.proofs.Common.{◌≡◌, ◌≤◌, length}
use Rattle.ob_base.specs.Limits.{max_expression_depth}
use Rattle.ob_base.specs.Syntax.{tree_of}
use Rattle.ob_syntax.specs.Parsing.{closed, least}
use Rattle.ob_syntax.specs.Waits.{all_pending}
use Rattle.ob_syntax.proofs.stack.Stack.close.Given as goal

abbrev pub invariant-loop-alloc : goal.invariant-loop-alloc
invariant-loop-alloc l = record {
  same : closed l.level (all_pending l.self) (tree_of l.operand.expr) l.operand.first ≡ closed l.level (all_pending l.initial.self) (tree_of l.initial.operand.expr) l.initial.operand.first;
  fits : least (all_pending l.self) l.operand.deep ≤ max_expression_depth;
}

abbrev pub decreases-loop-alloc : goal.decreases-loop-alloc
decreases-loop-alloc l = length l.self
