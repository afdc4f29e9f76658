-- His groups, what he names, and the deletion.
use Rattle.std.proofs.Common.{List, refl, subst, sym, true, ◌∙◌}
use Rattle.std.proofs.lemmas.Result.{err_from_is_err_and}
use Rattle.ob_access.specs.Policies.{IsPolicyOver}
use Rattle.ob_base.specs.declared.refusal.Op.TheVariants as op
use Rattle.ob_cache.specs.Calls.{standpoint}
use Rattle.ob_rows.proofs.CallerLemmas.{refused_later, stays-at_rest, stays-itself, stays-rests, view-Bool}
use Rattle.ob_unlink.proofs.UnlinkAnswer.{deleted_answer, ids_answer, ids_cause, stopped_cause, stopped_unlink, ungrouped_answer, ungrouped_cause}
use Rattle.ob_rows.specs.AskingSteps.{AdmitsBy}
use Rattle.ob_unlink.specs.DeletionSteps.{MayStopUnlink, SettlesDeletion, StopsUnlink}
use Rattle.ob_rows.specs.Rights.{rows_named}
use Rattle.ob_rows.specs.declared.asking.Caller.{Caller}
use Rattle.ob_unlink.proofs.unlinking.delete_named.Goals as goal
use Rattle.ob_schema.specs.Facts.{told_by}
use Rattle.ob_schema.specs.Models.{HasModel}
use Rattle.ob_schema.specs.declared.info.ModelInfo.{ModelInfo}

pub returns-in_err-groups-clause-answer : goal.returns-in_err-groups-clause-answer
returns-in_err-groups-clause-answer g c =
    let p = err_from_is_err_and c.from_residual.result c.from_residual.ensures.1 in
    let mid = c.groups_of.new.engine in
    rw (p.1, p.2) (ungrouped_answer c.args.policy.now c.args.call.now (standpoint g.K.Keeper c.args.engine.now) (standpoint g.K.Keeper mid) c.in_err-groups.field-0.0
    (stays-rests _ _ _ _ c.groups_of.ensures.same) c.in_err-groups.ensures.causes)

pub returns-in_err-groups-clause-causes : goal.returns-in_err-groups-clause-causes
returns-in_err-groups-clause-causes g c =
    let p = err_from_is_err_and c.from_residual.result c.from_residual.ensures.1 in
    rw (p.1, p.2) (ungrouped_cause c.args.policy.now c.args.call.now (standpoint g.K.Keeper c.args.engine.now) _ c.in_err-groups.field-0.0 c.in_err-groups.ensures.causes)

pub returns-in_err-groups-clause-rests : goal.returns-in_err-groups-clause-rests
returns-in_err-groups-clause-rests g c = stays-at_rest _ _ _ _ c.groups_of.ensures.same c.requires.rest

pub returns-in_err-ids-clause-answer : goal.returns-in_err-ids-clause-answer
returns-in_err-ids-clause-answer g c =
    let p = err_from_is_err_and c.from_residual-in_err-ids.result c.from_residual-in_err-ids.ensures.1 in
    let call = c.args.call.now in
    let by : Caller = record { policy = c.args.policy; groups = record { ref_ptr = c.args.policy.ref_ptr; now = c.in_ok-groups.groups }; user = call.caller } in
    rw (p.1, p.2) (ids_answer (standpoint g.K.Keeper c.args.engine.now) (standpoint g.K.Keeper c.groups_of.new.engine) call by refl c.in_err-ids.field-0.0
    c.in_ok-groups.ensures.groups (stays-rests _ _ _ _ c.groups_of.ensures.same) c.in_err-ids.ensures.value)

pub returns-in_err-ids-clause-causes : goal.returns-in_err-ids-clause-causes
returns-in_err-ids-clause-causes g c =
    let p = err_from_is_err_and c.from_residual-in_err-ids.result c.from_residual-in_err-ids.ensures.1 in
    let call = c.args.call.now in
    let by : Caller = record { policy = c.args.policy; groups = record { ref_ptr = c.args.policy.ref_ptr; now = c.in_ok-groups.groups }; user = call.caller } in
    let at = standpoint g.K.Keeper c.args.engine.now in
    rw (p.1, p.2) (ids_cause at at call by refl _ c.in_err-ids.field-0.0 c.requires.model c.in_err-ids.ensures.value)

pub returns-in_err-ids-clause-rests : goal.returns-in_err-ids-clause-rests
returns-in_err-ids-clause-rests g c = stays-at_rest _ _ _ _ c.groups_of.ensures.same c.requires.rest

pub delete_there-requires-clause-model : goal.delete_there-requires-clause-model
delete_there-requires-clause-model g c = subst (λ (ms : List ModelInfo). HasModel ms c.args.call.now.model) (sym c.groups_of.ensures.same.models) c.requires.model

pub delete_there-requires-clause-rest : goal.delete_there-requires-clause-rest
delete_there-requires-clause-rest g c = stays-itself _ _ _ _ c.groups_of.ensures.same c.requires.rest

pub delete_there-requires-clause-policy : goal.delete_there-requires-clause-policy
delete_there-requires-clause-policy g c = subst (λ (ms : List ModelInfo). IsPolicyOver ms c.args.policy.now) (sym c.groups_of.ensures.same.models) c.requires.policy

pub returns-in_err-delete_there-clause-answer : goal.returns-in_err-delete_there-clause-answer
returns-in_err-delete_there-clause-answer g c =
    let p = err_from_is_err_and c.from_residual-in_err-delete_there.result c.from_residual-in_err-delete_there.ensures.1 in
    let call = c.args.call.now in
    let by : Caller = record { policy = c.args.policy; groups = record { ref_ptr = c.args.policy.ref_ptr; now = c.in_ok-groups.groups }; user = call.caller } in
    let models = c.args.engine.now.held.models in
    let same = c.groups_of.ensures.same in
    let ids = c.in_ok-ids.ids in let why = c.in_err-delete_there.field-0.0 in
    let refused = rw c.as_slice.ensures.value at c.in_err-delete_there.ensures.refused in
    rw (p.1, p.2) (stopped_unlink (standpoint g.K.Keeper c.args.engine.now) (standpoint g.K.Keeper c.delete_there.new.engine) call by refl ids c.in_ok-ids.ensures.value why c.in_ok-groups.ensures.groups (λ tables rests.
    let own = refused tables (stays-rests _ _ _ _ same tables rests) in (
      own.0,
      refused_later _ _ _ c.groups_of.ensures.count _ (StopsUnlink models by call.model tables ids.items) why (λ w stops. subst (λ (ms : List ModelInfo). StopsUnlink ms by call.model tables ids.items w) same.models stops) own.1,
    )))

pub returns-in_err-delete_there-clause-causes : goal.returns-in_err-delete_there-clause-causes
returns-in_err-delete_there-clause-causes g c =
    let p = err_from_is_err_and c.from_residual-in_err-delete_there.result c.from_residual-in_err-delete_there.ensures.1 in
    let call = c.args.call.now in
    let by : Caller = record { policy = c.args.policy; groups = record { ref_ptr = c.args.policy.ref_ptr; now = c.in_ok-groups.groups }; user = call.caller } in
    let at = standpoint g.K.Keeper c.args.engine.now in
    let models = c.args.engine.now.held.models in
    let same = c.groups_of.ensures.same in
    let ids = c.in_ok-ids.ids in let why = c.in_err-delete_there.field-0.0 in
    let causes = rw c.as_slice.ensures.value at c.in_err-delete_there.ensures.causes in
    rw (p.1, p.2) (stopped_cause at at call by refl ids c.in_ok-ids.ensures.value _ why
    (refused_later _ _ _ c.groups_of.ensures.count _ (MayStopUnlink models call.model ids.items) why (λ w may. subst (λ (ms : List ModelInfo). MayStopUnlink ms call.model ids.items w) same.models may) causes))

pub returns-in_err-delete_there-clause-rests : goal.returns-in_err-delete_there-clause-rests
returns-in_err-delete_there-clause-rests g c =
    let says = c.delete_there.ensures.rests in
    record { models_are = says.models_are ∙ c.groups_of.ensures.same.models; phase_is = says.phase_is; next_ids = says.next_ids }

pub returns-clause-answer : goal.returns-clause-answer
returns-clause-answer g c =
    let call = c.args.call.now in
    let by : Caller = record { policy = c.args.policy; groups = record { ref_ptr = c.args.policy.ref_ptr; now = c.in_ok-groups.groups }; user = call.caller } in
    let after = standpoint g.K.Keeper c.delete_there.new.engine in
    let same = c.groups_of.ensures.same in
    let ids = c.in_ok-ids.ids in
    let settled = rw c.as_slice.ensures.value at c.in_ok-delete_there.ensures.settled in
    let says = c.delete_there.ensures.rests in
    deleted_answer (standpoint g.K.Keeper c.args.engine.now) after call by refl ids c.in_ok-ids.ensures.value _ (view-Bool true)
    record { models_are = says.models_are ∙ same.models; phase_is = says.phase_is; next_ids = says.next_ids } c.in_ok-groups.ensures.groups (λ tables rests.
    let own = settled tables (stays-rests _ _ _ _ same tables rests) in (
      own.0,
      subst (λ (ms : List ModelInfo). AdmitsBy by (told_by ms tables) op.Unlink (rows_named call.model ids.items)) same.models own.1,
      subst (λ (ms : List ModelInfo). SettlesDeletion after.kept after.held ms tables (rows_named call.model ids.items)) same.models own.2,
    ))

pub returns-clause-rests : goal.returns-clause-rests
returns-clause-rests g c =
    let says = c.delete_there.ensures.rests in
    record { models_are = says.models_are ∙ c.groups_of.ensures.same.models; phase_is = says.phase_is; next_ids = says.next_ids }
