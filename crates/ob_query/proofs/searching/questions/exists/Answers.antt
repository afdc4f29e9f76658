use Rattle.ob_query.proofs.searching.questions.exists.Goals as goal

pub returns-in-Err-Missing-clause-told : goal.returns-in-Err-Missing-clause-told
returns-in-Err-Missing-clause-told g c = let failed = rw c.in-Err-Missing.field-0-is at c.in-Err-Missing.ensures.failed in λ told tells. absurd (failed told tells)
