-- What was done so far is noted.
use Rattle.ob_effect.proofs.CallSteps.{Goes}
use Rattle.ob_effect.proofs.lists.link_each.Given as goal

abbrev pub invariant-loop-id : goal.invariant-loop-id
invariant-loop-id g l = Goes g.K.Keeper l.fn.engine l.engine l.notes
