use Rattle.ob_effect.proofs.CallerLemmas.{asks_then}
use Rattle.ob_commands.proofs.judging.some_restricting.Goals as goal

pub returns-in_err-cell-clause-asked : goal.returns-in_err-cell-clause-asked
returns-in_err-cell-clause-asked g c = asks_then g.K.Keeper _ _ _ c.loop-row.invariant c.restricting.ensures.asked

pub returns-in-Some-clause-asked : goal.returns-in-Some-clause-asked
returns-in-Some-clause-asked g c = asks_then g.K.Keeper _ _ _ c.loop-row.invariant c.restricting.ensures.asked

pub loop-row-preserved : goal.loop-row-preserved
loop-row-preserved g c = asks_then g.K.Keeper _ _ _ c.loop-row.invariant c.restricting.ensures.asked
