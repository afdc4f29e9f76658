use Rattle.std.proofs.Common.{Some, Option, Vec, Global, option_map, refl}
use Rattle.std.proofs.lemmas.Result.{err_from_is_err_and}
use Rattle.serde_json.specs.View.{view}
use Rattle.ob_call.proofs.CallerLemmas.{named-low}
use Rattle.ob_call.specs.Arguments.{IsFit}
use Rattle.ob_call.specs.ArgumentsSteps.{all_given_of, given_of}
use Rattle.ob_call.specs.Forms.{fields_at}
use Rattle.ob_call.specs.declared.arguments.Given.{Given}
use Rattle.ob_rows.specs.There.{ids_expected}
use Rattle.ob_orm.specs.Write.{vals_expected}
use Rattle.ob_orm.proofs.CreateAnswer.{must_be_given}
use Rattle.ob_rows.proofs.CallerLemmas.{pair_are, second_fit}
use Rattle.ob_orm.proofs.WriteAnswer.{denied_change, taken_change}
use Rattle.ob_orm.proofs.writing.change.asked_change.Goals as goal

pub returns-in_err-given-clause-value : goal.returns-in_err-given-clause-value
returns-in_err-given-clause-value c =
    let p = err_from_is_err_and c.from_residual.result c.from_residual.ensures.1 in
    let told = rw c.write_parameters-expected.ensures.expects at c.in_err-given.ensures.told in
    rw (p.1, p.2) (denied_change (λ (given : Vec (Option Given) Global). all_given_of given.items) c.args.schema.now c.args.call.now c.in_err-given.field-0.0 told)

pub given_object-requires-clause-form : goal.given_object-requires-clause-form
given_object-requires-clause-form c =
    let models = c.args.schema.now in
    let q = vals_expected models (fields_at models c.args.call.now.model) in
    let fit = rw c.write_parameters-expected.ensures.expects at c.in_ok-given.ensures.fit in
    let own : IsFit q (option_map given_of (Some c.in-Some-index.vals)) = second_fit ids_expected q c.in_ok-given.given.items (Some c.in-Some-index.vals) fit (rw c.in-Some-index.is at c.index-2.ensures) in own

pub unreachable-requires-in_default-index : goal.unreachable-requires-in_default-index
unreachable-requires-in_default-index c =
    let models = c.args.schema.now in
    let q = vals_expected models (fields_at models c.args.call.now.model) in
    let fit = rw c.write_parameters-expected.ensures.expects at c.in_ok-given.ensures.fit in
    must_be_given q c.index-2.result.now refl (second_fit ids_expected q c.in_ok-given.given.items c.index-2.result.now fit c.index-2.ensures) c.in_default-index.is

pub returns-clause-value : goal.returns-clause-value
returns-clause-value c =
    let models = c.args.schema.now in let call = c.args.call.now in
    let items = c.in_ok-given.given.items in
    let expects = c.write_parameters-expected.ensures.expects in
    let told = rw expects at c.in_ok-given.ensures.told in
    let fit = rw expects at c.in_ok-given.ensures.fit in
    let two = pair_are ids_expected (vals_expected models (fields_at models call.model)) items (Some c.in-Some.ids) (Some c.in-Some-index.vals) fit (rw c.in-Some.is at c.index.ensures) (rw c.in-Some-index.is at c.index-2.ensures) in
    taken_change models call items c.in-Some.ids c.in-Some-index.vals two told (record { ids = c.in_ok-ids.ids; object = c.in_ok-object.object }) c.in_ok-ids.ensures c.in_ok-object.ensures.given

pub returns-clause-low : goal.returns-clause-low
returns-clause-low c = rw c.in_ok-ids.ensures (named-low (view c.in-Some.ids.json.now))
