-- The items so far are these operands.
use Rattle.ob_domain.proofs.Each.{IsEachTo}
use Rattle.ob_domain.specs.Operands.{item_from}
use Rattle.ob_domain.proofs.operand.values_of.Given as goal

abbrev pub invariant-loop-item : goal.invariant-loop-item
invariant-loop-item l = IsEachTo (item_from l.field) l.items l.item-index l.operands
