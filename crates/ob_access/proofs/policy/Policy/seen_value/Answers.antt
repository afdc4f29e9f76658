-- The cell is asked for, and then the rows that it names.
use Rattle.ob_schema.specs.Facts.{asked-then, one_more}
use Rattle.ob_access.proofs.Asking.{answered_behind, asked_none}
use Rattle.ob_access.proofs.policy.Policy.seen_value.Goals as goal

pub returns-in-Err-clause-fault : goal.returns-in-Err-clause-fault
returns-in-Err-clause-fault g c = (c.args.facts.now, asked_none _, c.in-Err.ensures.failed)

pub returns-in-Err-clause-asked : goal.returns-in-Err-clause-asked
returns-in-Err-clause-asked g c = one_more _ _ _ (asked_none _) c.value.ensures.asked

pub returns-in-Some-clause-fault : goal.returns-in-Some-clause-fault
returns-in-Some-clause-fault g c =
    answered_behind g.F.Facts.has_failed c.args.facts.now c.value.new.self c.cut.new.facts c.cut.result (one_more _ _ _ (asked_none _) c.value.ensures.asked) c.cut.ensures.fault

pub returns-in-Some-clause-asked : goal.returns-in-Some-clause-asked
returns-in-Some-clause-asked g c = asked-then _ _ _ (one_more _ _ _ (asked_none _) c.value.ensures.asked) c.cut.ensures.asked

pub returns-in-None-clause-asked : goal.returns-in-None-clause-asked
returns-in-None-clause-asked g c = one_more _ _ _ (asked_none _) c.value.ensures.asked
