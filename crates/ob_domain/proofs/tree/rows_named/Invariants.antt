-- The rows of the operands so far.
use Rattle.std.proofs.Common.{◌≡◌, take}
use Rattle.ob_domain.specs.Passing.{rows_named}
use Rattle.ob_domain.proofs.tree.rows_named.Given as goal

abbrev pub invariant-loop-operand : goal.invariant-loop-operand
invariant-loop-operand l = l.ids.items ≡ rows_named l.user (take l.operand-index l.operands)
