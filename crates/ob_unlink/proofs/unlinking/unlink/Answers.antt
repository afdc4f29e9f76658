use Rattle.ob_cache.specs.Calls.{models_at, standpoint}
use Rattle.ob_call.specs.Called.{called_by, result_view}
use Rattle.ob_call.proofs.CallerLemmas.{IfErr-result_view}
use Rattle.ob_unlink.specs.Unlink.{UnlinkCause, Unlinks}
use Rattle.ob_rows.proofs.CallerLemmas.{IsCalled-found}
use Rattle.ob_unlink.proofs.unlinking.unlink.Goals as goal
use Rattle.ob_schema.specs.Models.{model_at}

pub returns-clause-call : goal.returns-clause-call
returns-clause-call g c =
    let call = c.args.call.now in
    let before = standpoint g.K.Keeper c.args.engine.now in
    let says = c.delete_named.ensures in
    IsCalled-found (model_at (models_at before) call.model) (λ info. Unlinks (models_at before) c.args.policy.now (called_by call info))
    (λ info. UnlinkCause (models_at before) c.args.policy.now (called_by call info)) before
    (standpoint g.K.Keeper c.delete_named.new.engine) (result_view c.delete_named.result) says.answer (IfErr-result_view _ c.delete_named.result says.causes) says.rests says.same says.count
