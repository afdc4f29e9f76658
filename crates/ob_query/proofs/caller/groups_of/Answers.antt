use Rattle.std.proofs.Common.{sym, ◌∙◌}
use Rattle.std.proofs.lemmas.Result.{IfOk-weaker}
use Rattle.ob_cache.specs.declared.fault.ReadFault.TheVariants as read_fault
use Rattle.ob_query.proofs.Asked.{as_asked, tells_tables}
use Rattle.ob_access.proofs.CallerLemmas.{groups_none, groups_some, none_contained, none_rise}
use Rattle.ob_schema.specs.Facts.{told_by}
use Rattle.ob_query.proofs.caller.groups_of.Goals as goal

pub returns-in-Ok-clause-asked : goal.returns-in-Ok-clause-asked
returns-in-Ok-clause-asked g c =
    let q = c.questions_are_questions.ensures.asked c.args.engine.now c.groups_of_user.new.facts c.groups_of_user.ensures.asked in
    as_asked g.K.Keeper c.args.engine.now c.groups_of_user.new.facts q.0 q.1 q.2

pub returns-in-Err-Fact-Missing-clause-asked : goal.returns-in-Err-Fact-Missing-clause-asked
returns-in-Err-Fact-Missing-clause-asked g c =
    let q = c.questions_are_questions.ensures.asked c.args.engine.now c.groups_of_user.new.facts c.groups_of_user.ensures.asked in
    as_asked g.K.Keeper c.args.engine.now c.groups_of_user.new.facts q.0 q.1 q.2

pub returns-in-Err-Fact-Keeper-clause-asked : goal.returns-in-Err-Fact-Keeper-clause-asked
returns-in-Err-Fact-Keeper-clause-asked g c =
    let q = c.questions_are_questions.ensures.asked c.args.engine.now c.groups_of_user.new.facts c.groups_of_user.ensures.asked in
    as_asked g.K.Keeper c.args.engine.now c.groups_of_user.new.facts q.0 q.1 q.2

pub returns-in-Err-Fact-NoMemory-clause-asked : goal.returns-in-Err-Fact-NoMemory-clause-asked
returns-in-Err-Fact-NoMemory-clause-asked g c =
    let q = c.questions_are_questions.ensures.asked c.args.engine.now c.groups_of_user.new.facts c.groups_of_user.ensures.asked in
    as_asked g.K.Keeper c.args.engine.now c.groups_of_user.new.facts q.0 q.1 q.2

pub returns-in-Err-NoMemory-clause-asked : goal.returns-in-Err-NoMemory-clause-asked
returns-in-Err-NoMemory-clause-asked g c =
    let q = c.questions_are_questions.ensures.asked c.args.engine.now c.groups_of_user.new.facts c.groups_of_user.ensures.asked in
    as_asked g.K.Keeper c.args.engine.now c.groups_of_user.new.facts q.0 q.1 q.2

pub returns-in-Err-Fact-Missing-clause-groups : goal.returns-in-Err-Fact-Missing-clause-groups
returns-in-Err-Fact-Missing-clause-groups g c =
    let old = c.args.engine.now in
    let failed = rw (c.in-Err-Fact-Missing.field-0-is, c.in-Err-Fact-Missing.field-0-0-is) at c.in-Err-Fact-Missing.ensures.fault in
    let none = c.questions_are_questions.ensures.failed old c.groups_of_user.new.facts read_fault.Missing failed in
    IfOk-weaker c.no_groups-in-Err-Fact-Missing.result _ _ (λ groups is tables rests. absurd (none (told_by old.held.models tables) (tells_tables g.K.Keeper old tables rests))) c.no_groups-in-Err-Fact-Missing.ensures.groups

pub returns-in-Err-Fact-Keeper-clause-causes : goal.returns-in-Err-Fact-Keeper-clause-causes
returns-in-Err-Fact-Keeper-clause-causes g c =
    let failed = rw (c.in-Err-Fact-Keeper.field-0-is, c.in-Err-Fact-Keeper.field-0-0-is) at c.in-Err-Fact-Keeper.ensures.fault in
    c.questions_are_questions.ensures.failed c.args.engine.now c.groups_of_user.new.facts read_fault.Keeper failed

pub returns-in-Ok-clause-groups : goal.returns-in-Ok-clause-groups
returns-in-Ok-clause-groups g c = λ tables rests.
    let old = c.args.engine.now in
    let users = rw c.schema.ensures at c.of.ensures.found in
    groups_some old.held.models c.args.policy.now tables c.args.user c.in-Some.users c.in-Ok.groups (sym users ∙ c.in-Some.is) c.in-Ok.ensures.rising
    (λ group. c.in-Ok.ensures.members (told_by old.held.models tables) (tells_tables g.K.Keeper old tables rests) group)

pub returns-in_default-clause-groups : goal.returns-in_default-clause-groups
returns-in_default-clause-groups g c =
    let old = c.args.engine.now in
    let users = rw c.schema.ensures at c.of.ensures.found in
    IfOk-weaker c.no_groups.result _ _
    (λ groups is tables rests.
    rw is (groups_none old.held.models c.args.policy.now tables c.args.user none_rise none_contained (sym users ∙ c.in_default.is)))
    c.no_groups.ensures.groups
