use Rattle.ob_cache.specs.Calls.{models_at, standpoint}
use Rattle.ob_cache.proofs.CallerLemmas.{IsAsked-found}
use Rattle.ob_call.specs.Called.{called_by, result_view}
use Rattle.ob_call.proofs.CallerLemmas.{IfErr-result_view}
use Rattle.ob_schema.specs.Models.{model_at}
use Rattle.ob_query.specs.Read.{ReadCause, Reads}
use Rattle.ob_query.proofs.reading.read.Goals as goal

pub returns-clause-call : goal.returns-clause-call
returns-clause-call g c =
    let call = c.args.call.now in
    let before = standpoint g.K.Keeper c.args.engine.now in
    let models = models_at before in
    IsAsked-found (model_at models call.model) (λ info. Reads models c.args.policy.now (called_by call info)) (λ info. ReadCause c.args.policy.now (called_by call info)) before (standpoint g.K.Keeper c.objects_read.new.engine)
    (result_view c.objects_read.result) c.objects_read.ensures.answer (IfErr-result_view _ c.objects_read.result c.objects_read.ensures.causes) c.objects_read.ensures.asked.same c.objects_read.ensures.asked.count
