use Rattle.ob_cache.specs.declared.fault.ReadFault.TheVariants as read_fault
use Rattle.ob_query.proofs.CallerLemmas.{as_asked}
use Rattle.ob_server.proofs.callers.opens.Goals as goal

pub returns-in-Ok-clause-asked : goal.returns-in-Ok-clause-asked
returns-in-Ok-clause-asked g c =
    let q = c.questions_are_questions.ensures.asked c.args.engine.now c.may_call.new.facts c.may_call.ensures.asked in
    as_asked g.K.Keeper c.args.engine.now c.may_call.new.facts q.0 q.1 q.2

pub returns-in-Err-Missing-clause-asked : goal.returns-in-Err-Missing-clause-asked
returns-in-Err-Missing-clause-asked g c =
    let q = c.questions_are_questions.ensures.asked c.args.engine.now c.may_call.new.facts c.may_call.ensures.asked in
    as_asked g.K.Keeper c.args.engine.now c.may_call.new.facts q.0 q.1 q.2

pub returns-in-Err-Keeper-clause-asked : goal.returns-in-Err-Keeper-clause-asked
returns-in-Err-Keeper-clause-asked g c =
    let q = c.questions_are_questions.ensures.asked c.args.engine.now c.may_call.new.facts c.may_call.ensures.asked in
    as_asked g.K.Keeper c.args.engine.now c.may_call.new.facts q.0 q.1 q.2

pub returns-in-Err-NoMemory-clause-asked : goal.returns-in-Err-NoMemory-clause-asked
returns-in-Err-NoMemory-clause-asked g c =
    let q = c.questions_are_questions.ensures.asked c.args.engine.now c.may_call.new.facts c.may_call.ensures.asked in
    as_asked g.K.Keeper c.args.engine.now c.may_call.new.facts q.0 q.1 q.2

pub returns-in-Err-Missing-clause-told : goal.returns-in-Err-Missing-clause-told
returns-in-Err-Missing-clause-told g c =
    let failed = rw c.in-Err-Missing.field-0-is at c.in-Err-Missing.ensures.failed in
    let none = c.questions_are_questions.ensures.failed c.args.engine.now c.may_call.new.facts read_fault.Missing failed in
    λ told tells. absurd (none told tells)

pub returns-in-Err-Keeper-clause-causes : goal.returns-in-Err-Keeper-clause-causes
returns-in-Err-Keeper-clause-causes g c =
    let failed = rw c.in-Err-Keeper.field-0-is at c.in-Err-Keeper.ensures.failed in
    c.questions_are_questions.ensures.failed c.args.engine.now c.may_call.new.facts read_fault.Keeper failed
