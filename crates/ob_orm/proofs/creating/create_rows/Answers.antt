use Rattle.std.proofs.Common.{List, refl, subst, sym, ◌∙◌}
use Rattle.std.proofs.lemmas.Result.{err_from_is_err_and}
use Rattle.ob_access.specs.Policies.{IsPolicyOver}
use Rattle.ob_call.specs.Called.{result_view}
use Rattle.ob_cache.specs.Calls.{standpoint}
use Rattle.ob_orm.proofs.CreateAnswer.{grouped_answer, grouped_cause, ungrouped_answer, ungrouped_cause}
use Rattle.ob_rows.proofs.CallerLemmas.{rose_from, stays-at_rest, stays-itself, stays-rests}
use Rattle.ob_rows.specs.declared.asking.Caller.{Caller}
use Rattle.ob_orm.proofs.creating.create_rows.Goals as goal
use Rattle.ob_schema.specs.Models.{HasModel}
use Rattle.ob_schema.specs.declared.info.ModelInfo.{ModelInfo}

pub returns-in_err-groups-clause-answer : goal.returns-in_err-groups-clause-answer
returns-in_err-groups-clause-answer g c =
    let p = err_from_is_err_and c.from_residual.result c.from_residual.ensures.1 in
    rw (p.1, p.2) (ungrouped_answer c.args.policy.now c.args.call.now (standpoint g.K.Keeper c.args.engine.now) (standpoint g.K.Keeper c.groups_of.new.engine) c.in_err-groups.field-0.0 (stays-rests _ _ _ _ c.groups_of.ensures.same)
    c.in_err-groups.ensures.causes)

pub returns-in_err-groups-clause-causes : goal.returns-in_err-groups-clause-causes
returns-in_err-groups-clause-causes g c =
    let p = err_from_is_err_and c.from_residual.result c.from_residual.ensures.1 in
    rw (p.1, p.2) (ungrouped_cause c.args.policy.now c.args.call.now (standpoint g.K.Keeper c.args.engine.now) _ c.in_err-groups.field-0.0 c.in_err-groups.ensures.causes)

pub returns-in_err-groups-clause-rests : goal.returns-in_err-groups-clause-rests
returns-in_err-groups-clause-rests g c = stays-at_rest _ _ _ _ c.groups_of.ensures.same c.requires.rest

pub create_by-requires-clause-model : goal.create_by-requires-clause-model
create_by-requires-clause-model g c = subst (λ (ms : List ModelInfo). HasModel ms c.args.call.now.model) (sym c.groups_of.ensures.same.models) c.requires.model

pub create_by-requires-clause-rest : goal.create_by-requires-clause-rest
create_by-requires-clause-rest g c = stays-itself _ _ _ _ c.groups_of.ensures.same c.requires.rest

pub create_by-requires-clause-policy : goal.create_by-requires-clause-policy
create_by-requires-clause-policy g c = subst (λ (ms : List ModelInfo). IsPolicyOver ms c.args.policy.now) (sym c.groups_of.ensures.same.models) c.requires.policy

pub returns-clause-answer : goal.returns-clause-answer
returns-clause-answer g c =
    let call = c.args.call.now in
    let by : Caller = record { policy = c.args.policy; groups = record { ref_ptr = c.args.policy.ref_ptr; now = c.in_ok-groups.groups }; user = call.caller } in
    let before = standpoint g.K.Keeper c.args.engine.now in
    let mid = standpoint g.K.Keeper c.groups_of.new.engine in
    let after = standpoint g.K.Keeper c.create_by.new.engine in
    grouped_answer call by before mid after c.groups_of.ensures.same.models (stays-rests _ _ _ _ c.groups_of.ensures.same) (rose_from before.faults mid.faults after.faults c.groups_of.ensures.count) c.in_ok-groups.ensures.groups
    (result_view c.create_by.result) c.create_by.ensures.answer

pub returns-clause-causes : goal.returns-clause-causes
returns-clause-causes g c =
    let call = c.args.call.now in
    let by : Caller = record { policy = c.args.policy; groups = record { ref_ptr = c.args.policy.ref_ptr; now = c.in_ok-groups.groups }; user = call.caller } in
    let before = standpoint g.K.Keeper c.args.engine.now in
    let mid = standpoint g.K.Keeper c.groups_of.new.engine in
    let after = standpoint g.K.Keeper c.create_by.new.engine in
    grouped_cause call by before mid after c.groups_of.ensures.same.models (stays-rests _ _ _ _ c.groups_of.ensures.same) (rose_from before.faults mid.faults after.faults c.groups_of.ensures.count) c.in_ok-groups.ensures.groups
    c.create_by.result c.create_by.ensures.causes

pub returns-clause-rests : goal.returns-clause-rests
returns-clause-rests g c =
    let says = c.create_by.ensures.rests in
    record { models_are = says.models_are ∙ c.groups_of.ensures.same.models; phase_is = says.phase_is; next_ids = says.next_ids }
