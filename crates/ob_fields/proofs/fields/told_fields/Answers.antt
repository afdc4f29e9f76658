use Rattle.std.proofs.Common.{Option, Vec, Global}
use Rattle.std.proofs.lemmas.Result.{err_from_is_err_and}
use Rattle.serde_json.specs.View.{view}
use Rattle.ob_call.specs.ArgumentsSteps.{all_given_of}
use Rattle.ob_call.specs.declared.arguments.Given.{Given}
use Rattle.ob_fields.proofs.FieldsAnswer.{answered, denied, wanting}
use Rattle.ob_fields.proofs.fields.told_fields.Goals as goal

pub returns-in_err-given-clause-told : goal.returns-in_err-given-clause-told
returns-in_err-given-clause-told c =
    let p = err_from_is_err_and c.from_residual.result c.from_residual.ensures.1 in
    let by = c.args.by.now in
    let told = rw c.fields_parameters-expected.ensures.expects at c.in_err-given.ensures.told in
    rw (p.1, p.2) (denied (λ (given : Vec (Option Given) Global). all_given_of given.items) c.args.schema.now by.policy.now by.groups.now c.args.call.now c.in_err-given.field-0.0 told)

pub returns-in_err-json-clause-told : goal.returns-in_err-json-clause-told
returns-in_err-json-clause-told c =
    let p = err_from_is_err_and c.from_residual-in_err-json.result c.from_residual-in_err-json.ensures.1 in
    let by = c.args.by.now in
    rw (p.1, p.2) (wanting c.args.schema.now by.policy.now by.groups.now c.args.call.now)

pub returns-clause-told : goal.returns-clause-told
returns-clause-told c =
    let told = rw c.fields_parameters-expected.ensures.expects at c.in_ok-given.ensures.told in
    let fit = rw c.fields_parameters-expected.ensures.expects at c.in_ok-given.ensures.fit in
    answered c.args.schema.now c.args.by.now c.args.call.now c.in_ok-given.given.items c.index.result.now c.index-2.result.now (view c.in_ok-json.json) c.requires.user fit told c.index.ensures c.index-2.ensures c.in_ok-json.ensures.told
