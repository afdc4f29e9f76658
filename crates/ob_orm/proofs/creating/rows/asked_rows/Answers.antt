use Rattle.std.proofs.Common.{Option, Some, Vec, Global, option_map, refl}
use Rattle.std.proofs.lemmas.Result.{err_from_is_err_and}
use Rattle.ob_call.specs.Arguments.{IsFit}
use Rattle.ob_call.specs.ArgumentsSteps.{all_given_of, given_of}
use Rattle.ob_call.specs.Forms.{fields_at}
use Rattle.ob_call.specs.declared.arguments.Given.{Given}
use Rattle.ob_orm.specs.Objects.{objects_expected}
use Rattle.ob_orm.proofs.CreateAnswer.{denied_rows, must_be_given, rows_passed, rows_unread}
use Rattle.ob_rows.proofs.CallerLemmas.{sole_are, sole_fits}
use Rattle.ob_orm.proofs.creating.rows.asked_rows.Goals as goal

pub unreachable-requires : goal.unreachable-requires
unreachable-requires c =
    let p = objects_expected c.args.schema.now (fields_at c.args.schema.now c.args.call.now.model) in
    must_be_given p c.index.result.now refl (sole_fits p c.in_ok-given.given.items c.index.result.now c.in_ok-given.ensures.fit c.index.ensures) c.in_default.is

pub rows_in-requires-clause-form : goal.rows_in-requires-clause-form
rows_in-requires-clause-form c =
    let p = objects_expected c.args.schema.now (fields_at c.args.schema.now c.args.call.now.model) in
    let own : IsFit p (option_map given_of (Some c.in-Some.vals)) = rw c.in-Some.is at (sole_fits p c.in_ok-given.given.items c.index.result.now c.in_ok-given.ensures.fit c.index.ensures) in own

pub returns-in_err-given-clause-value : goal.returns-in_err-given-clause-value
returns-in_err-given-clause-value c =
    let p = err_from_is_err_and c.from_residual.result c.from_residual.ensures.1 in
    rw (p.1, p.2) (denied_rows (λ (given : Vec (Option Given) Global). all_given_of given.items) c.args.schema.now c.args.call.now c.in_err-given.field-0.0 c.in_err-given.ensures.told)

pub returns-in_err-rows_in-clause-value : goal.returns-in_err-rows_in-clause-value
returns-in_err-rows_in-clause-value c =
    let p = err_from_is_err_and c.from_residual-in_err-rows_in.result c.from_residual-in_err-rows_in.ensures.1 in
    rw (p.1, p.2) (rows_unread c.args.schema.now c.args.call.now)

pub returns-clause-value : goal.returns-clause-value
returns-clause-value c =
    let call = c.args.call.now in
    let p = objects_expected c.args.schema.now (fields_at c.args.schema.now call.model) in
    let one = sole_are p c.in_ok-given.given.items (Some c.in-Some.vals) c.in_ok-given.ensures.fit (rw c.in-Some.is at c.index.ensures) in
    rows_passed c.args.schema.now call c.in_ok-given.given.items c.in-Some.vals c.in_ok-rows_in.field-0 one c.in_ok-given.ensures.told c.in_ok-rows_in.ensures.value
