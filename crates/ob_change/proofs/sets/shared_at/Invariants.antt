-- The row shares none of the sets so far that have the cell's field.
use Rattle.ob_base.specs.declared.id.FieldNo.{FieldNo}
use Rattle.ob_change.specs.Testing.{SharesFrom}
use Rattle.ob_change.proofs.Turns.{NoneOf}
use Rattle.ob_change.proofs.sets.shared_at.Given as goal

abbrev pub invariant-loop-set : goal.invariant-loop-set
invariant-loop-set l = NoneOf (λ set. (first : FieldNo) × SharesFrom l.fn.change.schema.now l.fn.change.behind.now.tables l.fn.cell set first) l.set-items l.set-index
