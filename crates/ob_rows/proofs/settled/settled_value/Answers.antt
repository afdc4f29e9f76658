use Rattle.ob_cache.specs.Stages.{resting}
use Rattle.ob_rows.proofs.settled.settled_value.Goals as goal

pub returns-in-Ok-clause-told : goal.returns-in-Ok-clause-told
returns-in-Ok-clause-told g c = λ tables rests. c.in-Ok.ensures.value (resting c.args.engine.now.held.models tables) rests

pub returns-in-Err-Missing-clause-told : goal.returns-in-Err-Missing-clause-told
returns-in-Err-Missing-clause-told g c = λ tables rests. (rw c.in-Err-Missing.field-0-is at c.in-Err-Missing.ensures.fault) (resting c.args.engine.now.held.models tables) rests
