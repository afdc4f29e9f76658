use Rattle.std.proofs.Common.{List, Ok, Err, subst}
use Rattle.std.proofs.lemmas.Result.{err_from_is_err_and}
use Rattle.std.specs.Prelude.{All}
use Rattle.ob_cache.specs.Calls.{standpoint}
use Rattle.ob_schema.specs.declared.info.ModelInfo.{ModelInfo}
use Rattle.ob_orm.specs.NewRowSteps.{IsTyped}
use Rattle.ob_orm.proofs.CreateAnswer.{GivesRows, outcome_answer, outcome_cause, rows_answer, rows_cause}
use Rattle.ob_orm.proofs.creating.create_by.Goals as goal

pub returns-in_err-rows-clause-answer : goal.returns-in_err-rows-clause-answer
returns-in_err-rows-clause-answer g c =
    let p = err_from_is_err_and c.from_residual.result c.from_residual.ensures.1 in
    let why = c.in_err-rows.field-0.0 in
    let gives = subst (λ (ms : List ModelInfo). GivesRows ms c.args.call.now (Err why)) c.schema.ensures c.in_err-rows.ensures.value in
    rw (p.1, p.2) (rows_answer c.args.call.now c.args.by.now (standpoint g.K.Keeper c.args.engine.now) why c.requires.model gives)

pub returns-in_err-rows-clause-causes : goal.returns-in_err-rows-clause-causes
returns-in_err-rows-clause-causes g c =
    let p = err_from_is_err_and c.from_residual.result c.from_residual.ensures.1 in
    let why = c.in_err-rows.field-0.0 in
    let gives = subst (λ (ms : List ModelInfo). GivesRows ms c.args.call.now (Err why)) c.schema.ensures c.in_err-rows.ensures.value in
    rw (p.1, p.2) (rows_cause c.args.call.now c.args.by.now (standpoint g.K.Keeper c.args.engine.now) _ why c.requires.model gives)

pub make_asked-requires-clause-typed : goal.make_asked-requires-clause-typed
make_asked-requires-clause-typed g c = subst (λ (ms : List ModelInfo). All (All (IsTyped ms c.args.call.now.model)) c.in_ok-rows.rows.values.items) c.schema.ensures c.in_ok-rows.ensures.typed

pub returns-clause-answer : goal.returns-clause-answer
returns-clause-answer g c =
    let gives = subst (λ (ms : List ModelInfo). GivesRows ms c.args.call.now (Ok c.in_ok-rows.rows)) c.schema.ensures c.in_ok-rows.ensures.value in
    outcome_answer c.args.call.now c.args.by.now (standpoint g.K.Keeper c.args.engine.now) (standpoint g.K.Keeper c.make_asked.new.engine) c.in_ok-rows.rows gives c.make_asked.result c.make_asked.ensures.rests c.make_asked.ensures.settled
    c.make_asked.ensures.refused

pub returns-clause-causes : goal.returns-clause-causes
returns-clause-causes g c =
    let gives = subst (λ (ms : List ModelInfo). GivesRows ms c.args.call.now (Ok c.in_ok-rows.rows)) c.schema.ensures c.in_ok-rows.ensures.value in
    outcome_cause c.args.call.now c.args.by.now (standpoint g.K.Keeper c.args.engine.now) (standpoint g.K.Keeper c.make_asked.new.engine) c.in_ok-rows.rows gives _ c.make_asked.result c.make_asked.ensures.causes
