use Rattle.ob_effect.proofs.Questions.{asks_then}
use Rattle.ob_effect.proofs.effect.named.are_there.Goals as goal

pub returns-in_err-there-clause-asked : goal.returns-in_err-there-clause-asked
returns-in_err-there-clause-asked g c = asks_then g.K.Keeper c.args.engine.now c.loop-id.engine c.is_there.new.engine c.loop-id.invariant c.is_there.ensures.asked

pub returns-then-not-there-clause-asked : goal.returns-then-not-there-clause-asked
returns-then-not-there-clause-asked g c = asks_then g.K.Keeper c.args.engine.now c.loop-id.engine c.is_there.new.engine c.loop-id.invariant c.is_there.ensures.asked

pub loop-id-preserved : goal.loop-id-preserved
loop-id-preserved g c = asks_then g.K.Keeper c.args.engine.now c.loop-id.engine c.is_there.new.engine c.loop-id.invariant c.is_there.ensures.asked
