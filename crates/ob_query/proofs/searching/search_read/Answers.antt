use Rattle.ob_cache.specs.Calls.{models_at, standpoint}
use Rattle.ob_cache.proofs.CallerLemmas.{IsAsked-found}
use Rattle.ob_call.specs.Called.{called_by, result_view}
use Rattle.ob_call.proofs.CallerLemmas.{IfErr-result_view}
use Rattle.ob_schema.specs.Models.{model_at}
use Rattle.ob_query.specs.Search.{SearchReadCause, SearchReads}
use Rattle.ob_query.proofs.searching.search_read.Goals as goal

pub returns-clause-call : goal.returns-clause-call
returns-clause-call g c =
    let call = c.args.call.now in
    let before = standpoint g.K.Keeper c.args.engine.now in
    let models = models_at before in
    IsAsked-found (model_at models call.model) (λ info. SearchReads models c.args.policy.now (called_by call info)) (λ info. SearchReadCause models c.args.policy.now (called_by call info)) before (standpoint g.K.Keeper c.searched_objects.new.engine)
    (result_view c.searched_objects.result) c.searched_objects.ensures.answer (IfErr-result_view _ c.searched_objects.result c.searched_objects.ensures.causes) c.searched_objects.ensures.asked.same c.searched_objects.ensures.asked.count
