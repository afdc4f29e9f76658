use Rattle.std.proofs.Common.{List, ◌∙◌, subst}
use Rattle.std.specs.Prelude.{IfSome}
use Rattle.std.proofs.lemmas.Result.{err_from_is_err_and}
use Rattle.ob_cache.specs.Calls.{models_at, standpoint}
use Rattle.ob_call.specs.Called.{called_by, result_view}
use Rattle.ob_fields.specs.FieldsGetSteps.{IsTold}
use Rattle.ob_schema.specs.Models.{model_at}
use Rattle.ob_schema.specs.declared.info.ModelInfo.{ModelInfo}
use Rattle.ob_fields.proofs.FieldsAnswer.{grouped, ungrouped}
use Rattle.ob_fields.proofs.fields.fields_get.Goals as goal

pub returns-in_err-groups-clause-call : goal.returns-in_err-groups-clause-call
returns-in_err-groups-clause-call g c =
    let p = err_from_is_err_and c.from_residual.result c.from_residual.ensures.1 in
    let call = c.args.call.now in
    let before = standpoint g.K.Keeper c.args.engine.now in let after = standpoint g.K.Keeper c.groups_of.new.engine in
    let models = models_at before in
    rw (p.1, p.2) (ungrouped models c.args.policy.now call before after c.groups_of.ensures.same c.groups_of.ensures.count (model_at models call.model) c.in_err-groups.field-0.0 c.in_err-groups.ensures.causes)

pub returns-clause-call : goal.returns-clause-call
returns-clause-call g c =
    let call = c.args.call.now in
    let before = standpoint g.K.Keeper c.args.engine.now in let after = standpoint g.K.Keeper c.groups_of.new.engine in
    let models = models_at before in
    let own = c.in_ok-groups.groups in
    let outcome = result_view c.told_fields.result in
    let told = subst (λ (ms : List ModelInfo). IfSome (model_at ms call.model) (λ info. IsTold ms c.args.policy.now own (called_by call info) outcome)) (c.schema.ensures ∙ c.groups_of.ensures.same.models) c.told_fields.ensures.told in
    grouped models c.args.policy.now call before after c.groups_of.ensures.same c.groups_of.ensures.count own c.in_ok-groups.ensures.groups (model_at models call.model) outcome told
