-- No row names one of those so far.
use Rattle.ob_base.specs.declared.id.RecId.{RecId}
use Rattle.ob_change.specs.Testing.{IsHeldBy}
use Rattle.ob_change.proofs.Turns.{NoneOf}
use Rattle.ob_change.proofs.gone.holder_by.Given as goal

abbrev pub invariant-loop-key : goal.invariant-loop-key
invariant-loop-key l = NoneOf (λ key. (holder : RecId) × IsHeldBy l.fn.tables.tables l.fn.model l.fn.number l.fn.field key holder) l.keys l.key-index
