-- One question behind another.
use Rattle.ob_effect.proofs.Questions.{asks_then}
use Rattle.ob_effect.proofs.staged.linked_row.Goals as goal

pub returns-in_err-is_there-clause-asked : goal.returns-in_err-is_there-clause-asked
returns-in_err-is_there-clause-asked g c = asks_then g.K.Keeper c.args.engine.now c.value_at.new.engine c.is_there.new.engine c.value_at.ensures.asked c.is_there.ensures.asked

pub returns-then-branch-clause-asked : goal.returns-then-branch-clause-asked
returns-then-branch-clause-asked g c = asks_then g.K.Keeper c.args.engine.now c.value_at.new.engine c.is_there.new.engine c.value_at.ensures.asked c.is_there.ensures.asked

pub returns-else-branch-clause-asked : goal.returns-else-branch-clause-asked
returns-else-branch-clause-asked g c = asks_then g.K.Keeper c.args.engine.now c.value_at.new.engine c.is_there.new.engine c.value_at.ensures.asked c.is_there.ensures.asked
