use Rattle.ob_cache.specs.Calls.{models_at, standpoint}
use Rattle.ob_call.specs.Called.{called_by, result_view}
use Rattle.ob_call.proofs.CallerLemmas.{IfErr-result_view}
use Rattle.ob_orm.specs.Write.{WriteCause, Writes}
use Rattle.ob_rows.proofs.CallerLemmas.{IsCalled-found}
use Rattle.ob_orm.proofs.writing.write.Goals as goal
use Rattle.ob_schema.specs.Models.{model_at}

pub returns-clause-call : goal.returns-clause-call
returns-clause-call g c =
    let call = c.args.call.now in
    let before = standpoint g.K.Keeper c.args.engine.now in
    let says = c.change_rows.ensures in
    IsCalled-found (model_at (models_at before) call.model) (λ info. Writes (models_at before) c.args.policy.now (called_by call info)) (λ info. WriteCause (models_at before) c.args.policy.now (called_by call info)) before
    (standpoint g.K.Keeper c.change_rows.new.engine) (result_view c.change_rows.result) says.answer (IfErr-result_view _ c.change_rows.result says.causes) says.rests says.same says.count
