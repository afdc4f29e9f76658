use Rattle.std.proofs.Common.{◌≤◌, ap, Err, ◌∙◌, arith}
use Rattle.std.proofs.lemmas.Result.{err_from_is_err_and}
use Rattle.ob_orm.proofs.AdmittedRows.{all-made, err-of, first-refused, second-refused, third-refusing}
use Rattle.ob_orm.proofs.creating.settle_admitted.Goals as goal

pub returns-in_err-test_touched-clause-refused : goal.returns-in_err-test_touched-clause-refused
returns-in_err-test_touched-clause-refused g c =
    let p = err_from_is_err_and c.from_residual.result c.from_residual.ensures.1 in
    let why = c.in_err-test_touched.field-0.0 in
    err-of c.from_residual.result why _ (p.1 ∙ ap Err p.2)
    (first-refused c.args.by.now c.args.touched.now c.args.making.now _ _ _ _ c.test_touched.ensures.same _ why c.in_err-test_touched.ensures.denies)

pub returns-in_err-settle_rows-clause-refused : goal.returns-in_err-settle_rows-clause-refused
returns-in_err-settle_rows-clause-refused g c =
    let p = err_from_is_err_and c.from_residual-in_err-settle_rows.result c.from_residual-in_err-settle_rows.ensures.1 in
    let why = c.in_err-settle_rows.field-0.0 in
    err-of c.from_residual-in_err-settle_rows.result why _ (p.1 ∙ ap Err p.2)
    (second-refused c.args.by.now c.args.touched.now c.args.making.now _ _ _ _ c.test_touched.ensures.same _ _ _ _ _ c.test_touched.ensures.count c.in_ok-test_touched.ensures.admits why c.in_err-settle_rows.ensures.refused)

pub returns-then-is_err-clause-refused : goal.returns-then-is_err-clause-refused
returns-then-is_err-clause-refused g c =
    let up : g.K.Keeper.faults c.args.engine.now.keeper.now ≤ g.K.Keeper.faults c.settle_rows.new.engine.keeper.now = (let a = c.test_touched.ensures.count in let b = c.settle_rows.ensures.count in omega (arith, a, b)) in
    third-refusing c.test_touched-admitted.result c.args.by.now c.args.touched.now c.args.making.now _ _ _ _ c.test_touched.ensures.same _ _ _ _ c.in_ok-settle_rows.ensures.settled c.test_touched-admitted.ensures.same
    c.in_ok-test_touched.ensures.admits _ _ _ _ _ _ up (ap (λ k. g.K.Keeper.faults k.now) c.forget.ensures.same) c.test_touched-admitted.ensures.denies c.forget.ensures.forgotten
    (c.forget.ensures.rests.models_are ∙ c.test_touched-admitted.ensures.same.models ∙ c.settle_rows.ensures.rests.models_are ∙ c.test_touched.ensures.same.models)

pub returns-else-is_err-clause-settled : goal.returns-else-is_err-clause-settled
returns-else-is_err-clause-settled g c =
    all-made c.test_touched-admitted.result c.args.by.now c.args.touched.now c.args.making.now _ _ _ _ c.test_touched.ensures.same _ _ _ _ c.in_ok-settle_rows.ensures.settled c.test_touched-admitted.ensures.same c.in_ok-test_touched.ensures.admits
    c.test_touched-admitted.ensures.admits
