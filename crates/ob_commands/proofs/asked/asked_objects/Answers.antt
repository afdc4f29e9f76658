use Rattle.std.proofs.Common.{Option, Some, Vec, Global}
use Rattle.std.proofs.lemmas.Result.{err_from_is_err_and}
use Rattle.ob_call.specs.ArgumentsSteps.{all_given_of}
use Rattle.ob_call.specs.Forms.{fields_at}
use Rattle.ob_call.specs.declared.arguments.Given.{Given}
use Rattle.ob_commands.proofs.GivenArguments.{create-refused, create-taken, sole_are, vals_objects}
use Rattle.ob_commands.proofs.asked.asked_objects.Goals as goal

pub returns-in_err-given-clause-given : goal.returns-in_err-given-clause-given
returns-in_err-given-clause-given c =
    let p = err_from_is_err_and c.from_residual.result c.from_residual.ensures.1 in
    let told = rw c.create_parameters-expected.ensures.expects at c.in_err-given.ensures.told in
    rw (p.1, p.2) (create-refused c.args.schema.now c.args.call.now (λ (given : Vec (Option Given) Global). all_given_of given.items) c.in_err-given.field-0.0 told)

pub returns-clause-given : goal.returns-clause-given
returns-clause-given c =
    let expects = c.create_parameters-expected.ensures.expects in
    let told = rw expects at c.in_ok-given.ensures.told in
    let fit = rw expects at c.in_ok-given.ensures.fit in
    let items = c.in_ok-given.given.items in
    let one = sole_are (vals_objects (fields_at c.args.schema.now c.args.call.now.model)) items (Some c.in-Some.vals) fit (rw c.in-Some.is at c.index.ensures) in
    create-taken c.args.schema.now c.args.call.now items c.in-Some.vals told one
