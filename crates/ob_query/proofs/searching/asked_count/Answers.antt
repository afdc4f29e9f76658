use Rattle.std.proofs.Common.{◌≡◌, codes, true, Option, None, Vec, Global, sym, ap, subst, ◌∙◌}
use Rattle.std.specs.Prelude.{IfSome}
use Rattle.std.proofs.lemmas.Result.{IfOk-weaker, err_from_is_err_and}
use Rattle.serde_json.specs.View.{view}
use Rattle.ob_base.specs.declared.id.ModelNo.{ModelNo}
use Rattle.ob_call.specs.ArgumentsSteps.{all_given_of}
use Rattle.ob_call.specs.Called.{called_by}
use Rattle.ob_call.specs.declared.arguments.Given.{Given}
use Rattle.ob_query.proofs.GrantedFields.{allowed_in, allowed_ok, denied_by}
use Rattle.ob_query.proofs.SearchAnswers.{count_pairs, named_count, taken_count, two_are}
use Rattle.ob_query.specs.Callers.{IsAllowed, in_turn}
use Rattle.ob_query.specs.NamedFields.{count_named}
use Rattle.ob_query.specs.SearchForms as forms
use Rattle.ob_query.specs.SearchForms.{count_expects, counted_by, counted_of, domain_expected, limit_expected}
use Rattle.ob_query.specs.SearchParts.{sought_view}
use Rattle.ob_query.specs.declared.caller.Caller.{Caller}
use Rattle.ob_query.specs.declared.searching.sought.Sought.{Sought}
use Rattle.ob_schema.specs.Models.{model_at}
use Rattle.ob_query.proofs.searching.asked_count.Goals as goal

pub returns-in_err-given-clause-asked : goal.returns-in_err-given-clause-asked
returns-in_err-given-clause-asked c =
    let p = err_from_is_err_and c.from_residual.result c.from_residual.ensures.1 in
    let models = c.args.schema.now in
    let call = c.args.call.now in
    let told = rw c.count_parameters-expected.ensures.expects at c.in_err-given.ensures.told in
    rw (p.1, p.2) (denied_by c.args.by models call.model (λ (given : Vec (Option Given) Global). all_given_of given.items) (λ info (sought : Sought) (meant : forms.Sought). sought_view sought ≡ meant)
    (λ infos. count_expects models call.model) (λ info gs. counted_by models (called_by call info) gs) (λ info. count_named models (called_by call info)) (view call.args.now) (view call.kw.now) c.in_err-given.field-0.0 told)

pub returns-clause-asked : goal.returns-clause-asked
returns-clause-asked c =
    let models = c.args.schema.now in
    let call = c.args.call.now in
    let by = c.args.by in
    let items = c.in_ok-given.given.items in
    let expects = c.count_parameters-expected.ensures.expects in
    let told = rw expects at c.in_ok-given.ensures.told in
    let fit = rw expects at c.in_ok-given.ensures.fit in
    let one = c.index.result.now in
    let two = c.index-2.result.now in
    let old = c.in_ok-sought.sought in
    let are = two_are (domain_expected models call.model true) limit_expected items fit one two c.index.ensures c.index-2.ensures in
    let meant = taken_count models call items one two (sought_view old) are told c.in_ok-sought.ensures.sought in
    let named = named_count models call items one two (sought_view old) are told c.in_ok-sought.ensures.sought in
    let Told = λ (told : Sought). told ≡ old in
    let pairs = λ (m : ModelNo). in_turn (count_pairs m one (sought_view old)) in
    let At = λ (b : Caller) (m : ModelNo). IsAllowed b m (pairs m) Told c.allowed_count.result in
    let own : At old.by old.model = c.allowed_count.ensures in
    let allowed = subst (At by) c.in_ok-sought.ensures.model (subst (λ (b : Caller). At b old.model) c.in_ok-sought.ensures.by own) in
    allowed_in by call.model (model_at models call.model) (λ info (sought : Sought) (meant : forms.Sought). sought_view sought ≡ meant) (λ info. counted_of models (called_by call info)) (λ info. count_named models (called_by call info))
    (pairs call.model) Told (λ info. sought_view old) c.allowed_count.result meant named (λ info told own. ap sought_view own) allowed
