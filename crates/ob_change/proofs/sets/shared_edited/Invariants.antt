-- No row of the cells so far shares a set that has the cell's field.
use Rattle.ob_base.specs.declared.id.FieldNo.{FieldNo}
use Rattle.ob_change.specs.Testing.{SharesAt}
use Rattle.ob_change.proofs.Turns.{NoneOf}
use Rattle.ob_change.proofs.sets.shared_edited.Given as goal

abbrev pub invariant-loop-cell : goal.invariant-loop-cell
invariant-loop-cell l = NoneOf (λ cell. (first : FieldNo) × SharesAt l.fn.change.schema.now l.fn.change.behind.now.tables cell first) l.cells l.cell-index
