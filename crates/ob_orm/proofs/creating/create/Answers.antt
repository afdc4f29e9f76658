use Rattle.ob_cache.specs.Calls.{models_at, standpoint}
use Rattle.ob_call.specs.Called.{called_by, result_view}
use Rattle.ob_call.proofs.CallerLemmas.{IfErr-result_view}
use Rattle.ob_orm.specs.Create.{CreateCause, Creates}
use Rattle.ob_rows.proofs.CallerLemmas.{IsCalled-found}
use Rattle.ob_orm.proofs.creating.create.Goals as goal
use Rattle.ob_schema.specs.Models.{model_at}

pub returns-clause-call : goal.returns-clause-call
returns-clause-call g c =
    let call = c.args.call.now in
    let before = standpoint g.K.Keeper c.args.engine.now in
    let says = c.create_rows.ensures in
    IsCalled-found (model_at (models_at before) call.model) (λ info. Creates (models_at before) c.args.policy.now (called_by call info))
    (λ info. CreateCause (models_at before) c.args.policy.now (called_by call info)) before
    (standpoint g.K.Keeper c.create_rows.new.engine) (result_view c.create_rows.result) says.answer (IfErr-result_view _ c.create_rows.result says.causes) says.rests says.same says.count
