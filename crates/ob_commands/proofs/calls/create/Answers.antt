use Rattle.ob_cache.specs.Calls.{models_at, standpoint}
use Rattle.ob_call.specs.Called.{called_by, result_view}
use Rattle.ob_commands.proofs.ToldCalls.{called-loose, called-told}
use Rattle.ob_commands.specs.Changes.{CreateMayCome, CreatesSome}
use Rattle.ob_commands.specs.Told as spec
use Rattle.ob_orm.specs.Create.{CreateCause, Creates}
use Rattle.ob_schema.specs.Models.{model_at}
use Rattle.ob_commands.proofs.calls.create.Goals as goal

pub returns-then-is_told_create-clause-call : goal.returns-then-is_told_create-clause-call
returns-then-is_told_create-clause-call g c =
    let call = c.args.call.now in
    let policy = c.args.policy.now in
    let before = standpoint g.K.Keeper c.args.engine.now in
    let models = models_at before in
    called-told (λ info. spec.is_told_create models (called_by call info)) (λ info. Creates models policy (called_by call info)) (λ info. CreatesSome models policy (called_by call info))
    (λ info. CreateCause models policy (called_by call info)) (λ info. CreateMayCome models policy (called_by call info)) before (standpoint g.K.Keeper c.create.new.engine) (result_view c.create.result)
    (model_at models call.model) c.is_told_create.result (rw c.schema.ensures at c.is_told_create.ensures) c.if-is_told_create.true c.create.ensures.call

pub returns-else-is_told_create-clause-call : goal.returns-else-is_told_create-clause-call
returns-else-is_told_create-clause-call g c =
    let call = c.args.call.now in
    let policy = c.args.policy.now in
    let before = standpoint g.K.Keeper c.args.engine.now in
    let models = models_at before in
    called-loose (λ info. spec.is_told_create models (called_by call info)) (λ info. Creates models policy (called_by call info)) (λ info. CreatesSome models policy (called_by call info))
    (λ info. CreateCause models policy (called_by call info)) (λ info. CreateMayCome models policy (called_by call info)) before (standpoint g.K.Keeper c.create_some.new.engine) (result_view c.create_some.result)
    (model_at models call.model) c.is_told_create.result (rw c.schema.ensures at c.is_told_create.ensures) c.if-is_told_create.false c.create_some.ensures.call
