use Rattle.std.proofs.Common.{Option, Some, Vec, Global, option_map, refl}
use Rattle.std.proofs.lemmas.Result.{err_from_is_err_and}
use Rattle.serde_json.specs.View.{view}
use Rattle.ob_call.proofs.CallerLemmas.{named-low}
use Rattle.ob_call.specs.Arguments.{IsFit}
use Rattle.ob_call.specs.ArgumentsSteps.{all_given_of, given_of}
use Rattle.ob_call.specs.Forms.{fields_at}
use Rattle.ob_call.specs.declared.arguments.Given.{Given}
use Rattle.ob_commands.proofs.GivenArguments.{ids_given, pair_are, second_fit, vals_object, write-refused, write-taken}
use Rattle.ob_commands.proofs.asked.asked_change.Goals as goal

pub returns-in_err-given-clause-given : goal.returns-in_err-given-clause-given
returns-in_err-given-clause-given c =
    let p = err_from_is_err_and c.from_residual.result c.from_residual.ensures.1 in
    let told = rw c.write_parameters-expected.ensures.expects at c.in_err-given.ensures.told in
    rw (p.1, p.2) (write-refused c.args.schema.now c.args.call.now (λ (given : Vec (Option Given) Global). all_given_of given.items) c.in_err-given.field-0.0 told)

pub returns-clause-given : goal.returns-clause-given
returns-clause-given c =
    let expects = c.write_parameters-expected.ensures.expects in
    let told = rw expects at c.in_ok-given.ensures.told in
    let fit = rw expects at c.in_ok-given.ensures.fit in
    let items = c.in_ok-given.given.items in
    let values = vals_object (fields_at c.args.schema.now c.args.call.now.model) in
    let two = pair_are ids_given values items (Some c.in-Some.ids) (Some c.in-Some-index.vals) fit (rw c.in-Some.is at c.index.ensures) (rw c.in-Some-index.is at c.index-2.ensures) in
    write-taken c.args.schema.now c.args.call.now items c.in-Some.ids c.in-Some-index.vals (record { ids = c.in_ok-ids.ids; vals = c.in-Some-index.vals }) told two refl c.in_ok-ids.ensures

pub returns-clause-form : goal.returns-clause-form
returns-clause-form c =
    let fit = rw c.write_parameters-expected.ensures.expects at c.in_ok-given.ensures.fit in
    let p = vals_object (fields_at c.args.schema.now c.args.call.now.model) in
    let own : IsFit p (option_map given_of (Some c.in-Some-index.vals)) = second_fit ids_given p c.in_ok-given.given.items (Some c.in-Some-index.vals) fit (rw c.in-Some-index.is at c.index-2.ensures) in own

pub returns-clause-low : goal.returns-clause-low
returns-clause-low c = rw c.in_ok-ids.ensures (named-low (view c.in-Some.ids.json.now))
