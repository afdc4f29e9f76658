use Rattle.ob_cache.specs.Calls.{models_at, standpoint}
use Rattle.ob_cache.proofs.CallerLemmas.{IsAsked-found}
use Rattle.ob_call.specs.Called.{called_by, result_view}
use Rattle.ob_call.proofs.CallerLemmas.{IfErr-result_view}
use Rattle.ob_schema.specs.Models.{model_at}
use Rattle.ob_group.specs.Groups.{Groups, GroupsCause}
use Rattle.ob_group.proofs.grouping.read_group.Goals as goal

pub returns-clause-call : goal.returns-clause-call
returns-clause-call g c =
    let call = c.args.call.now in
    let before = standpoint g.K.Keeper c.args.engine.now in
    let models = models_at before in
    IsAsked-found (model_at models call.model) (λ info. Groups models c.args.policy.now (called_by call info)) (λ info. GroupsCause models c.args.policy.now (called_by call info)) before (standpoint g.K.Keeper c.grouped_rows.new.engine)
    (result_view c.grouped_rows.result) c.grouped_rows.ensures.answer (IfErr-result_view _ c.grouped_rows.result c.grouped_rows.ensures.causes) c.grouped_rows.ensures.asked.same c.grouped_rows.ensures.asked.count
