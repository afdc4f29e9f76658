use Rattle.std.proofs.Common.{◌≡◌, Err, refl, sym, subst, ap, ◌∙◌}
use Rattle.std.specs.Prelude.{IfSome}
use Rattle.std.proofs.lemmas.Result.{err_from_is_err_and}
use Rattle.ob_cache.specs.Calls.{KeeperRose, standpoint}
use Rattle.ob_call.specs.Called.{called_by}
use Rattle.ob_query.proofs.CallerLemmas.{asked_then, denied_cause_at, denied_view_at, fails_cause, fails_in, rests_on}
use Rattle.ob_schema.specs.Models.{model_at}
use Rattle.ob_group.proofs.GroupsAnswers.{StandsForGroups, groups_answered}
use Rattle.ob_group.specs.GroupForms.{groups_of}
use Rattle.ob_group.specs.Groups.{Groups, GroupsCause, GroupsOver}
use Rattle.ob_group.specs.NamedGroups.{groups_named}
use Rattle.ob_query.specs.declared.caller.Caller.{Caller}
use Rattle.ob_group.proofs.grouping.grouped_rows.Goals as goal

pub returns-in_err-groups-clause-answer : goal.returns-in_err-groups-clause-answer
returns-in_err-groups-clause-answer g c =
    let p = err_from_is_err_and c.from_residual.result c.from_residual.ensures.1 in
    let models = c.args.engine.now.held.models in
    let call = c.args.call.now in
    rw (p.1, p.2) (λ tables rests. fails_in (KeeperRose (standpoint g.K.Keeper c.args.engine.now) (standpoint g.K.Keeper c.groups_of.new.engine)) (model_at models call.model)
    (λ info why. Groups models c.args.policy.now (called_by call info) tables (Err why)) c.in_err-groups.field-0.0 c.in_err-groups.ensures.causes)

pub returns-in_err-groups-clause-causes : goal.returns-in_err-groups-clause-causes
returns-in_err-groups-clause-causes g c =
    let p = err_from_is_err_and c.from_residual.result c.from_residual.ensures.1 in
    let models = c.args.engine.now.held.models in
    let call = c.args.call.now in
    rw (p.1, p.2) (fails_cause (KeeperRose (standpoint g.K.Keeper c.args.engine.now) (standpoint g.K.Keeper c.groups_of.new.engine))
    (λ why. IfSome (model_at models call.model) (λ info. GroupsCause models c.args.policy.now (called_by call info) why)) c.in_err-groups.field-0.0 c.in_err-groups.ensures.causes)

pub returns-in_err-asked-clause-answer : goal.returns-in_err-asked-clause-answer
returns-in_err-asked-clause-answer g c =
    let p = err_from_is_err_and c.from_residual-in_err-asked.result c.from_residual-in_err-asked.ensures.1 in
    let models = c.args.engine.now.held.models in
    let call = c.args.call.now in
    let rose = KeeperRose (standpoint g.K.Keeper c.args.engine.now) (standpoint g.K.Keeper c.groups_of.new.engine) in
    let by : Caller = record { policy = c.args.policy; groups = record { ref_ptr = c.args.policy.ref_ptr; now = c.in_ok-groups.groups }; user = call.caller } in
    rw (p.1, p.2)
    (λ tables rests. denied_view_at _ models (c.schema.ensures ∙ c.groups_of.ensures.asked.same.models) call by refl rose (λ info. StandsForGroups) (λ m info. groups_of m (called_by call info)) (λ m info. groups_named m (called_by call info))
    c.in_err-asked.field-0.0 tables (λ info. GroupsOver models c.args.policy.now (called_by call info)) (c.in_ok-groups.ensures.groups tables rests) (λ info view why h. h) c.in_err-asked.ensures.asked)

pub returns-in_err-asked-clause-causes : goal.returns-in_err-asked-clause-causes
returns-in_err-asked-clause-causes g c =
    let p = err_from_is_err_and c.from_residual-in_err-asked.result c.from_residual-in_err-asked.ensures.1 in
    let models = c.args.engine.now.held.models in
    let call = c.args.call.now in
    let rose = KeeperRose (standpoint g.K.Keeper c.args.engine.now) (standpoint g.K.Keeper c.groups_of.new.engine) in
    let by : Caller = record { policy = c.args.policy; groups = record { ref_ptr = c.args.policy.ref_ptr; now = c.in_ok-groups.groups }; user = call.caller } in
    rw (p.1, p.2)
    (denied_cause_at _ models (c.schema.ensures ∙ c.groups_of.ensures.asked.same.models) call by refl rose (λ info. StandsForGroups) (λ m info. groups_of m (called_by call info)) (λ m info. groups_named m (called_by call info))
    c.in_err-asked.field-0.0 c.requires.model c.in_err-asked.ensures.asked)

pub returns-clause-answer : goal.returns-clause-answer
returns-clause-answer g c = λ tables rests.
    let old = c.args.engine.now in
    let mid = c.groups_of.new.engine in
    let models = old.held.models in
    let same = c.groups_of.ensures.asked.same.models in
    let asked = rw (c.schema.ensures, same) at c.in_ok-asked.ensures.asked in
    let gathered = rw same at (c.in_ok-found.ensures.told tables (rests_on g.K.Keeper old mid tables c.groups_of.ensures.asked rests)) in
    groups_answered models c.args.call.now (standpoint g.K.Keeper old) (standpoint g.K.Keeper c.gathered.new.engine) tables _ refl (c.in_ok-groups.ensures.groups tables rests) c.in_ok-asked.asked c.in_ok-found.found c.groups_json.result
    c.in_ok-asked.ensures.by c.in_ok-asked.ensures.model asked gathered c.groups_json.ensures.told c.groups_json.ensures.causes

pub returns-clause-asked : goal.returns-clause-asked
returns-clause-asked g c = asked_then g.K.Keeper c.args.engine.now c.groups_of.new.engine c.gathered.new.engine c.groups_of.ensures.asked c.gathered.ensures.asked
