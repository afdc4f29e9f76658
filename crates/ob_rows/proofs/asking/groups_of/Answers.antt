use Rattle.std.proofs.Common.{sym, ◌∙◌}
use Rattle.std.proofs.lemmas.Result.{IfOk-weaker}
use Rattle.ob_access.proofs.CallerLemmas.{groups_none, none_contained, none_rise}
use Rattle.ob_cache.specs.Telling.{TellsFacts}
use Rattle.ob_io.specs.Cause.{Rose}
use Rattle.ob_rows.proofs.Answered.{AreHis, answered-causes, answered-told, groups-at, his-groups}
use Rattle.ob_rows.proofs.asking.groups_of.Goals as goal

pub returns-in_default-clause-groups : goal.returns-in_default-clause-groups
returns-in_default-clause-groups g c = λ tables rests.
    let users = rw c.schema.ensures at c.of.ensures.found in
    rw c.in_ok-none.ensures (groups_none c.args.engine.now.held.models c.args.policy.now tables c.args.user none_rise none_contained (sym users ∙ c.in_default.is))

pub returns-clause-groups : goal.returns-clause-groups
returns-clause-groups g c =
    let old = c.args.engine.now in
    let faults = g.K.Keeper.faults in
    let policy = c.args.policy.now in let user = c.args.user in
    let users = rw c.schema.ensures at c.of.ensures.found in
    let tells = TellsFacts (g.K.Keeper.kept old.keeper.now) old.held in
    let asked = c.groups_of_user-groups.ensures in
    let his = his-groups tells policy c.in-Some.users user c.groups_of_user-groups.result asked.members asked.rising in
    let told = answered-told tells (Rose (faults old.keeper.now) (faults c.groups_of_user-groups.new.facts.keeper.now)) _ (c.questions_are_questions.ensures.failed old c.groups_of_user-groups.new.facts) c.groups_of_user-groups.result _ c.answered.result
    (AreHis policy c.in-Some.users user) c.answered.ensures his asked.fault in
    IfOk-weaker c.answered.result _ _ (λ own are. groups-at (g.K.Keeper.kept old.keeper.now) old.held policy c.in-Some.users user own (sym users ∙ c.in-Some.is) are) told

pub returns-clause-causes : goal.returns-clause-causes
returns-clause-causes g c =
    let old = c.args.engine.now in
    let faults = g.K.Keeper.faults in
    let tells = TellsFacts (g.K.Keeper.kept old.keeper.now) old.held in
    answered-causes tells (Rose (faults old.keeper.now) (faults c.groups_of_user-groups.new.facts.keeper.now)) _ (c.questions_are_questions.ensures.failed old c.groups_of_user-groups.new.facts) c.groups_of_user-groups.result _ c.answered.result
    c.answered.ensures c.groups_of_user-groups.ensures.fault

pub returns-clause-same : goal.returns-clause-same
returns-clause-same g c = (c.questions_are_questions.ensures.asked c.args.engine.now c.groups_of_user-groups.new.facts c.groups_of_user-groups.ensures.asked).1

pub returns-clause-count : goal.returns-clause-count
returns-clause-count g c = (c.questions_are_questions.ensures.asked c.args.engine.now c.groups_of_user-groups.new.facts c.groups_of_user-groups.ensures.asked).2

pub returns-clause-lender : goal.returns-clause-lender
returns-clause-lender g c = (c.questions_are_questions.ensures.asked c.args.engine.now c.groups_of_user-groups.new.facts c.groups_of_user-groups.ensures.asked).0
