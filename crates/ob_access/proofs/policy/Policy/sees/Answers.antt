-- The row is asked for, and then the rules.
use Rattle.ob_schema.specs.Facts.{asked-then, one_more}
use Rattle.ob_access.proofs.Asking.{answered_behind, asked_none}
use Rattle.ob_access.proofs.policy.Policy.sees.Goals as goal

pub returns-then-not-right-clause-asked : goal.returns-then-not-right-clause-asked
returns-then-not-right-clause-asked g c = asked_none _

pub returns-in-Ok-true-clause-fault : goal.returns-in-Ok-true-clause-fault
returns-in-Ok-true-clause-fault g c =
    answered_behind g.F.Facts.has_failed c.args.facts.now c.known.new.self c.admits.new.facts c.admits.result (one_more _ _ _ (asked_none _) c.known.ensures.asked) c.admits.ensures.fault

pub returns-in-Ok-true-clause-asked : goal.returns-in-Ok-true-clause-asked
returns-in-Ok-true-clause-asked g c = asked-then _ _ _ (one_more _ _ _ (asked_none _) c.known.ensures.asked) c.admits.ensures.asked

pub returns-in-Ok-false-clause-asked : goal.returns-in-Ok-false-clause-asked
returns-in-Ok-false-clause-asked g c = one_more _ _ _ (asked_none _) c.known.ensures.asked

pub returns-in-Err-clause-fault : goal.returns-in-Err-clause-fault
returns-in-Err-clause-fault g c = (c.args.facts.now, asked_none _, c.in-Err.ensures.failed)

pub returns-in-Err-clause-asked : goal.returns-in-Err-clause-asked
returns-in-Err-clause-asked g c = one_more _ _ _ (asked_none _) c.known.ensures.asked
