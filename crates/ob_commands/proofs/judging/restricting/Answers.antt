use Rattle.ob_effect.proofs.CallerLemmas.{asks_then}
use Rattle.ob_commands.proofs.judging.restricting.Goals as goal
use Rattle.ob_commands.proofs.judging.restricting.Goals.{then-eq+then-matches+in_ok-ids+in_default-first, else-eq}

pub returns-in_err-ids-clause-asked : goal.returns-in_err-ids-clause-asked
returns-in_err-ids-clause-asked g c = asks_then g.K.Keeper _ _ _ c.loop-relation.invariant c.naming.ensures.asked

pub returns-in-Some-clause-asked : goal.returns-in-Some-clause-asked
returns-in-Some-clause-asked g c = asks_then g.K.Keeper _ _ _ c.loop-relation.invariant c.naming.ensures.asked

pub loop-relation-preserved : goal.loop-relation-preserved
loop-relation-preserved g c = elim c.if-eq.branch [
  | then-eq+then-matches+in_ok-ids+in_default-first w ↦ rw w.engine-is (asks_then g.K.Keeper _ _ _ c.loop-relation.invariant w.naming.ensures.asked)
  | else-eq w ↦ rw w.engine-is c.loop-relation.invariant
]
