use Rattle.ob_commands.proofs.judging.was_there.Goals as goal

pub returns-in-Err-Missing-clause-told : goal.returns-in-Err-Missing-clause-told
returns-in-Err-Missing-clause-told g c = λ told t. absurd ((rw c.in-Err-Missing.field-0-is at c.in-Err-Missing.ensures.failed) told t)
