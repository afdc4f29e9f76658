use Rattle.ob_effect.proofs.CallerLemmas.{asks_then}
use Rattle.ob_commands.proofs.judging.some_missing.Goals as goal

pub returns-in_err-is_there-clause-asked : goal.returns-in_err-is_there-clause-asked
returns-in_err-is_there-clause-asked g c = asks_then g.K.Keeper _ _ _ c.loop-named.invariant c.is_there.ensures.asked

pub returns-then-not-branch-clause-asked : goal.returns-then-not-branch-clause-asked
returns-then-not-branch-clause-asked g c = asks_then g.K.Keeper _ _ _ c.loop-named.invariant c.is_there.ensures.asked

pub loop-named-preserved : goal.loop-named-preserved
loop-named-preserved g c = asks_then g.K.Keeper _ _ _ c.loop-named.invariant c.is_there.ensures.asked
