use Rattle.ob_cache.specs.Calls.{models_at, standpoint}
use Rattle.ob_call.specs.Called.{called_by, result_view}
use Rattle.ob_commands.proofs.ToldCalls.{called-loose, called-told}
use Rattle.ob_commands.specs.Changes.{WriteMayCome, WritesSome}
use Rattle.ob_commands.specs.Told as spec
use Rattle.ob_orm.specs.Write.{WriteCause, Writes}
use Rattle.ob_schema.specs.Models.{model_at}
use Rattle.ob_commands.proofs.calls.write.Goals as goal

pub returns-then-is_told_write-clause-call : goal.returns-then-is_told_write-clause-call
returns-then-is_told_write-clause-call g c =
    let call = c.args.call.now in
    let policy = c.args.policy.now in
    let before = standpoint g.K.Keeper c.args.engine.now in
    let models = models_at before in
    called-told (λ info. spec.is_told_write models (called_by call info)) (λ info. Writes models policy (called_by call info)) (λ info. WritesSome models policy (called_by call info))
    (λ info. WriteCause models policy (called_by call info)) (λ info. WriteMayCome models policy (called_by call info)) before (standpoint g.K.Keeper c.write.new.engine) (result_view c.write.result)
    (model_at models call.model) c.is_told_write.result (rw c.schema.ensures at c.is_told_write.ensures) c.if-is_told_write.true c.write.ensures.call

pub returns-else-is_told_write-clause-call : goal.returns-else-is_told_write-clause-call
returns-else-is_told_write-clause-call g c =
    let call = c.args.call.now in
    let policy = c.args.policy.now in
    let before = standpoint g.K.Keeper c.args.engine.now in
    let models = models_at before in
    called-loose (λ info. spec.is_told_write models (called_by call info)) (λ info. Writes models policy (called_by call info)) (λ info. WritesSome models policy (called_by call info))
    (λ info. WriteCause models policy (called_by call info)) (λ info. WriteMayCome models policy (called_by call info)) before (standpoint g.K.Keeper c.write_some.new.engine) (result_view c.write_some.result)
    (model_at models call.model) c.is_told_write.result (rw c.schema.ensures at c.is_told_write.ensures) c.if-is_told_write.false c.write_some.ensures.call
