use Rattle.std.proofs.Common.{Some, Option, Vec, Global}
use Rattle.std.proofs.lemmas.Result.{err_from_is_err_and}
use Rattle.serde_json.specs.View.{view}
use Rattle.ob_call.proofs.CallerLemmas.{named-low}
use Rattle.ob_call.specs.Arguments.{arguments_of}
use Rattle.ob_call.specs.ArgumentsSteps.{all_given_of}
use Rattle.ob_call.specs.declared.arguments.Given.{Given}
use Rattle.ob_unlink.specs.Unlink.{unlink_expects}
use Rattle.ob_rows.specs.There.{ids_expected}
use Rattle.ob_rows.proofs.CallerLemmas.{sole_are}
use Rattle.ob_unlink.proofs.UnlinkAnswer.{denied_ids, taken_ids}
use Rattle.ob_unlink.proofs.unlinking.unlinked_ids.Goals as goal

pub returns-in_err-given-clause-value : goal.returns-in_err-given-clause-value
returns-in_err-given-clause-value c = λ info.
    let p = err_from_is_err_and c.from_residual.result c.from_residual.ensures.1 in
    let call = c.args.call.now in
    let told = rw c.unlink_parameters-expected.ensures.expects at c.in_err-given.ensures.told in
    rw (p.1, p.2) (denied_ids (λ (given : Vec (Option Given) Global). all_given_of given.items) (arguments_of unlink_expects (view call.args.now) (view call.kw.now)) c.in_err-given.field-0.0 told)

pub returns-clause-value : goal.returns-clause-value
returns-clause-value c = λ info.
    let call = c.args.call.now in
    let items = c.in_ok-given.given.items in
    let expects = c.unlink_parameters-expected.ensures.expects in
    let told = rw expects at c.in_ok-given.ensures.told in
    let fit = rw expects at c.in_ok-given.ensures.fit in
    let one = sole_are ids_expected items (Some c.in-Some.ids) fit (rw c.in-Some.is at c.index.ensures) in
    taken_ids (arguments_of unlink_expects (view call.args.now) (view call.kw.now)) items c.in-Some.ids c.in_ok-ids.ids.items told one c.in_ok-ids.ensures

pub returns-clause-low : goal.returns-clause-low
returns-clause-low c = rw c.in_ok-ids.ensures (named-low (view c.in-Some.ids.json.now))
