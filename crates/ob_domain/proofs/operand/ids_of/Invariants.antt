-- The items so far are these rows.
use Rattle.ob_domain.proofs.Each.{IsEachTo}
use Rattle.ob_domain.specs.Operands.{node_from}
use Rattle.ob_domain.proofs.operand.ids_of.Given as goal

abbrev pub invariant-loop-item : goal.invariant-loop-item
invariant-loop-item l = IsEachTo node_from l.items l.item-index l.nodes
