use Rattle.std.proofs.Common.{◌≡◌, ◌≤◌, Ok, Err, List, ap, subst, sym, ◌∙◌, arith}
use Rattle.std.proofs.lemmas.Result.{err_from_is_err_and}
use Rattle.serde_json.specs.View.{view}
use Rattle.ob_base.specs.declared.id.FieldNo.{FieldNo}
use Rattle.ob_orm.proofs.AdmittedRows.{err-of}
use Rattle.ob_orm.proofs.AskedRows.{asked-cause, asked-refused, rows-made, settling-causes, settling-refused, within-models, within-parents}
use Rattle.ob_orm.proofs.creating.make_asked.Goals as goal
use Rattle.ob_rows.specs.Author.{author_by}
use Rattle.ob_orm.specs.CreateSteps.{IsAllowedBy, rows_view}
use Rattle.ob_orm.specs.TouchSteps.{AreOfModels}
use Rattle.ob_schema.specs.declared.info.ModelInfo.{ModelInfo}

pub returns-in_err-allowed-clause-refused : goal.returns-in_err-allowed-clause-refused
returns-in_err-allowed-clause-refused g c =
    let call = c.args.call.now in
    let plan = c.in_ok-plan.plan in
    let done = c.in_ok-touched.touched in
    let p = err_from_is_err_and c.from_residual-in_err-allowed.result c.from_residual-in_err-allowed.ensures.1 in
    let why = c.in_err-allowed.field-0.0 in
    let denied = subst (λ (fields : List FieldNo). IsAllowedBy c.args.by.now call.model done.askings.items fields c.args.rows.wrong (Err why)) c.as_slice.ensures.value c.in_err-allowed.ensures in
    err-of c.from_residual-in_err-allowed.result why _ (p.1 ∙ ap Err p.2)
    (asked-refused c.args.by.now (author_by call) call.model c.requires.user (rows_view c.args.rows) plan.making (view plan.told) _ _ _ _ _ _ c.planned.ensures.same c.touched_by.ensures.same c.in_ok-plan.ensures.planned
    c.in_ok-plan.ensures.ready c.as_slice-edits.result.now c.as_slice-edits.ensures.value done c.in_ok-touched.ensures.touched _ why denied)

pub returns-in_err-allowed-clause-causes : goal.returns-in_err-allowed-clause-causes
returns-in_err-allowed-clause-causes g c =
    let call = c.args.call.now in
    let plan = c.in_ok-plan.plan in
    let done = c.in_ok-touched.touched in
    let p = err_from_is_err_and c.from_residual-in_err-allowed.result c.from_residual-in_err-allowed.ensures.1 in
    let why = c.in_err-allowed.field-0.0 in
    let denied = subst (λ (fields : List FieldNo). IsAllowedBy c.args.by.now call.model done.askings.items fields c.args.rows.wrong (Err why)) c.as_slice.ensures.value c.in_err-allowed.ensures in
    err-of c.from_residual-in_err-allowed.result why _ (p.1 ∙ ap Err p.2)
    (asked-cause c.args.by.now (author_by call) call.model c.requires.user (rows_view c.args.rows) plan.making (view plan.told) _ _ _ _ _ _ c.planned.ensures.same c.touched_by.ensures.same c.in_ok-plan.ensures.planned
    c.in_ok-plan.ensures.ready c.as_slice-edits.result.now c.as_slice-edits.ensures.value done c.in_ok-touched.ensures.touched _ why
    (within-parents c.args.engine.now.held.models call.model c.as_slice-edits.result.now plan.making.edits.items c.as_slice-edits.ensures.value done c.in_ok-touched.ensures.within c.in_ok-plan.ensures.within) denied)

pub settle_admitted-requires-clause-models : goal.settle_admitted-requires-clause-models
settle_admitted-requires-clause-models g c =
    let call = c.args.call.now in
    let plan = c.in_ok-plan.plan in
    let done = c.in_ok-touched.touched in
    subst (λ (ms : List ModelInfo). AreOfModels ms done) (sym (c.touched_by.ensures.same.models ∙ c.planned.ensures.same.models))
    (within-models c.args.engine.now.held.models call.model c.as_slice-edits.result.now plan.making.edits.items c.as_slice-edits.ensures.value done c.in_ok-touched.ensures.within c.requires.model c.in_ok-plan.ensures.ready.fit)

pub returns-in_err-settle_admitted-clause-refused : goal.returns-in_err-settle_admitted-clause-refused
returns-in_err-settle_admitted-clause-refused g c =
    let call = c.args.call.now in
    let plan = c.in_ok-plan.plan in
    let done = c.in_ok-touched.touched in
    let p = err_from_is_err_and c.from_residual-in_err-settle_admitted.result c.from_residual-in_err-settle_admitted.ensures.1 in
    let why = c.in_err-settle_admitted.field-0.0 in
    let may = subst (λ (fields : List FieldNo). IsAllowedBy c.args.by.now call.model done.askings.items fields c.args.rows.wrong (Ok c.in_ok-allowed.field-0)) c.as_slice.ensures.value c.in_ok-allowed.ensures in
    let up : g.K.Keeper.faults c.args.engine.now.keeper.now ≤ g.K.Keeper.faults c.touched_by.new.engine.keeper.now = (let a = c.planned.ensures.count in let b = c.touched_by.ensures.count in omega (arith, a, b)) in
    err-of c.from_residual-in_err-settle_admitted.result why _ (p.1 ∙ ap Err p.2)
    (settling-refused c.args.by.now (author_by call) call.model c.requires.user (rows_view c.args.rows) plan.making (view plan.told) _ _ _ _ _ _ c.planned.ensures.same c.touched_by.ensures.same c.in_ok-plan.ensures.planned
    c.in_ok-plan.ensures.ready c.as_slice-edits.result.now c.as_slice-edits.ensures.value done c.in_ok-touched.ensures.touched c.in_ok-allowed.field-0 may _ _ _ _ _ up why
    c.in_err-settle_admitted.ensures.refused)

pub returns-in_err-settle_admitted-clause-causes : goal.returns-in_err-settle_admitted-clause-causes
returns-in_err-settle_admitted-clause-causes g c =
    let call = c.args.call.now in
    let plan = c.in_ok-plan.plan in
    let done = c.in_ok-touched.touched in
    let p = err_from_is_err_and c.from_residual-in_err-settle_admitted.result c.from_residual-in_err-settle_admitted.ensures.1 in
    let why = c.in_err-settle_admitted.field-0.0 in
    let up : g.K.Keeper.faults c.args.engine.now.keeper.now ≤ g.K.Keeper.faults c.touched_by.new.engine.keeper.now = (let a = c.planned.ensures.count in let b = c.touched_by.ensures.count in omega (arith, a, b)) in
    err-of c.from_residual-in_err-settle_admitted.result why _ (p.1 ∙ ap Err p.2)
    (settling-causes c.args.by.now (author_by call) call.model c.requires.user (rows_view c.args.rows) plan.making (view plan.told) _ _ _ _ _ _ c.planned.ensures.same c.touched_by.ensures.same c.in_ok-plan.ensures.planned
    c.in_ok-plan.ensures.ready c.as_slice-edits.result.now c.as_slice-edits.ensures.value done c.in_ok-touched.ensures.touched _ _ _ up why
    (within-parents c.args.engine.now.held.models call.model c.as_slice-edits.result.now plan.making.edits.items c.as_slice-edits.ensures.value done c.in_ok-touched.ensures.within c.in_ok-plan.ensures.within) c.in_err-settle_admitted.ensures.causes)

pub returns-clause-settled : goal.returns-clause-settled
returns-clause-settled g c =
    let call = c.args.call.now in
    let plan = c.in_ok-plan.plan in
    let done = c.in_ok-touched.touched in
    let may = subst (λ (fields : List FieldNo). IsAllowedBy c.args.by.now call.model done.askings.items fields c.args.rows.wrong (Ok c.in_ok-allowed.field-0)) c.as_slice.ensures.value c.in_ok-allowed.ensures in
    rows-made c.args.by.now (author_by call) call.model c.requires.user (rows_view c.args.rows) plan.making (view plan.told) _ _ _ _ _ _ c.planned.ensures.same c.touched_by.ensures.same c.in_ok-plan.ensures.planned
    c.in_ok-plan.ensures.ready c.as_slice-edits.result.now c.as_slice-edits.ensures.value done c.in_ok-touched.ensures.touched c.in_ok-allowed.field-0 may _ _ c.in_ok-settle_admitted.ensures.settled
