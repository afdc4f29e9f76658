use Rattle.ob_effect.proofs.CallSteps.{Goes}
use Rattle.ob_effect.proofs.effect.parents.change_parents.Given as goal

-- the parents so far are changed
abbrev pub invariant-loop-parent : goal.invariant-loop-parent
invariant-loop-parent g l = Goes g.K.Keeper l.fn.engine l.engine l.notes
