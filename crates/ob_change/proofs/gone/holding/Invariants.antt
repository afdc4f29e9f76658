-- No row names one of them by the fields so far.
use Rattle.ob_change.specs.Changing.{sides_of}
use Rattle.ob_change.proofs.GoneRows.{HoldsAt}
use Rattle.ob_change.proofs.Turns.{NoneBelow}
use Rattle.ob_change.proofs.gone.holding.Given as goal

abbrev pub invariant-loop-place : goal.invariant-loop-place
invariant-loop-place l = NoneBelow (HoldsAt l.fn.change.schema.now (sides_of l.fn.change) l.fn.keys l.fn.model) l.place
