-- What is answered goes by the law of questions.
use Rattle.std.proofs.Common.{[], ◌≡◌, List, sym, ◌∙◌}
use Rattle.std.proofs.lemmas.Result.{IfOk-weaker}
use Rattle.ob_base.specs.declared.id.RecId.{RecId}
use Rattle.ob_cache.specs.Telling.{TellsFacts}
use Rattle.ob_cache.specs.declared.fault.ReadFault.TheVariants as read_fault
use Rattle.ob_effect.proofs.GroupsTold.{failed_as, groups_by}
use Rattle.ob_effect.proofs.ChangesBehind.{asks_told}
use Rattle.ob_effect.proofs.asking.groups_of.Goals as goal
use Rattle.ob_io.specs.Cause.{Rose}

pub returns-in-Ok-clause-groups : goal.returns-in-Ok-clause-groups
returns-in-Ok-clause-groups g c = λ told say.
    let users = rw c.schema.ensures at c.of.ensures.found in
    groups_by c.args.engine.now.held.models c.args.policy.now told c.args.user c.in-Some.users c.in-Ok.groups (sym users ∙ c.in-Some.is) c.in-Ok.ensures.rising (c.in-Ok.ensures.members told say)

pub returns-in-Ok-clause-asked : goal.returns-in-Ok-clause-asked
returns-in-Ok-clause-asked g c =
    asks_told g.K.Keeper c.args.engine.now c.groups_of_user.new.facts (c.questions_are_questions.ensures.asked c.args.engine.now c.groups_of_user.new.facts c.groups_of_user.ensures.asked)

pub returns-in-Err-Fact-Missing-clause-groups : goal.returns-in-Err-Fact-Missing-clause-groups
returns-in-Err-Fact-Missing-clause-groups g c =
    let old = c.args.engine.now in let now = c.groups_of_user.new.facts in let faults = g.K.Keeper.faults in
    let step = c.in-Err-Fact-Missing in
    let nothing = failed_as (TellsFacts (g.K.Keeper.kept old.keeper.now) old.held) (Rose (faults old.keeper.now) (faults now.keeper.now)) _ (c.questions_are_questions.ensures.failed old now)
    c.groups_of_user.result step.field-0 step.field-0-0 read_fault.Missing step.is step.field-0-is step.field-0-0-is c.groups_of_user.ensures.fault in
    IfOk-weaker c.no_groups-in-Err-Fact-Missing.result (λ (groups : List RecId). groups ≡ []) _ (λ groups none told say. absurd (nothing told say)) c.no_groups-in-Err-Fact-Missing.ensures.groups

pub returns-in-Err-Fact-Missing-clause-asked : goal.returns-in-Err-Fact-Missing-clause-asked
returns-in-Err-Fact-Missing-clause-asked g c =
    asks_told g.K.Keeper c.args.engine.now c.groups_of_user.new.facts (c.questions_are_questions.ensures.asked c.args.engine.now c.groups_of_user.new.facts c.groups_of_user.ensures.asked)

pub returns-in-Err-Fact-Keeper-clause-causes : goal.returns-in-Err-Fact-Keeper-clause-causes
returns-in-Err-Fact-Keeper-clause-causes g c =
    let old = c.args.engine.now in let now = c.groups_of_user.new.facts in let faults = g.K.Keeper.faults in
    let step = c.in-Err-Fact-Keeper in
    failed_as (TellsFacts (g.K.Keeper.kept old.keeper.now) old.held) (Rose (faults old.keeper.now) (faults now.keeper.now)) _ (c.questions_are_questions.ensures.failed old now)
    c.groups_of_user.result step.field-0 step.field-0-0 read_fault.Keeper step.is step.field-0-is step.field-0-0-is c.groups_of_user.ensures.fault

pub returns-in-Err-Fact-Keeper-clause-asked : goal.returns-in-Err-Fact-Keeper-clause-asked
returns-in-Err-Fact-Keeper-clause-asked g c =
    asks_told g.K.Keeper c.args.engine.now c.groups_of_user.new.facts (c.questions_are_questions.ensures.asked c.args.engine.now c.groups_of_user.new.facts c.groups_of_user.ensures.asked)

pub returns-in-Err-Fact-NoMemory-clause-asked : goal.returns-in-Err-Fact-NoMemory-clause-asked
returns-in-Err-Fact-NoMemory-clause-asked g c =
    asks_told g.K.Keeper c.args.engine.now c.groups_of_user.new.facts (c.questions_are_questions.ensures.asked c.args.engine.now c.groups_of_user.new.facts c.groups_of_user.ensures.asked)

pub returns-in-Err-NoMemory-clause-asked : goal.returns-in-Err-NoMemory-clause-asked
returns-in-Err-NoMemory-clause-asked g c =
    asks_told g.K.Keeper c.args.engine.now c.groups_of_user.new.facts (c.questions_are_questions.ensures.asked c.args.engine.now c.groups_of_user.new.facts c.groups_of_user.ensures.asked)
