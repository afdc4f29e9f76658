use Rattle.std.proofs.Common.{◌≡◌, codes, true, false, Option, Vec, Global, List, sym, subst, ◌∙◌}
use Rattle.std.proofs.lemmas.Result.{IfOk-weaker, err_from_is_err_and}
use Rattle.serde_json.specs.View.{view}
use Rattle.ob_base.specs.declared.id.ModelNo.{ModelNo}
use Rattle.ob_call.specs.ArgumentsSteps.{all_given_of}
use Rattle.ob_call.specs.Called.{called_by}
use Rattle.ob_call.specs.Arguments.{Expected}
use Rattle.ob_call.specs.Forms.{fields_at}
use Rattle.ob_call.specs.declared.arguments.Given.{Given}
use Rattle.ob_query.proofs.GrantedFields.{allowed_in, allowed_ok, denied_by}
use Rattle.ob_query.proofs.SearchAnswers.{StandsFor, four_are, four_given, four_last, named_search, search_pairs, taken_search}
use Rattle.ob_query.specs.Callers.{IsAllowed, in_turn}
use Rattle.ob_query.specs.NamedFields.{search_named}
use Rattle.ob_query.specs.SearchForms.{count_fault, domain_expected, limit_expected, order_fault, search_expects, sought_by, sought_of}
use Rattle.ob_query.specs.SearchParts.{IsSoughtOver, sought_view, told_sought}
use Rattle.ob_query.specs.declared.caller.Caller.{Caller}
use Rattle.ob_query.specs.declared.searching.sought.Sought.{Sought}
use Rattle.ob_schema.specs.Models.{model_at}
use Rattle.ob_schema.specs.declared.info.ModelInfo.{ModelInfo}
use Rattle.ob_query.proofs.searching.asked_search.Goals as goal

pub returns-in_err-given-clause-asked : goal.returns-in_err-given-clause-asked
returns-in_err-given-clause-asked c =
    let p = err_from_is_err_and c.from_residual.result c.from_residual.ensures.1 in
    let models = c.args.schema.now in
    let call = c.args.call.now in
    let told = rw c.search_parameters-expected.ensures.expects at c.in_err-given.ensures.told in
    rw (p.1, p.2) (denied_by c.args.by models call.model (λ (given : Vec (Option Given) Global). all_given_of given.items) (λ info. StandsFor c.args.by call.model) (search_expects models call.model)
    (λ info gs. sought_by models (called_by call info) gs) (λ info. search_named models (called_by call info)) (view call.args.now) (view call.kw.now) c.in_err-given.field-0.0 told)

pub returns-clause-asked : goal.returns-clause-asked
returns-clause-asked c =
    let models = c.args.schema.now in
    let call = c.args.call.now in
    let by = c.args.by in
    let items = c.in_ok-given.given.items in
    let expects = c.search_parameters-expected.ensures.expects in
    let told = rw expects at c.in_ok-given.ensures.told in
    let fit = rw expects at c.in_ok-given.ensures.fit in
    let first : Expected = domain_expected models call.model true in
    let second : Expected = record { name = codes "offset"; required = false; fault = count_fault } in
    let fourth : Expected = record { name = codes "order"; required = false; fault = order_fault (fields_at models call.model) } in
    let four = four_given first second limit_expected fourth items fit in
    let one = c.index.result.now in
    let two = c.index-2.result.now in
    let three = c.index-3.result.now in
    let last = c.index-4.result.now in
    let old = c.in_ok-sought.sought in
    let are = four_are first fourth items four one two three last c.index.ensures c.index-2.ensures c.index-3.ensures c.index-4.ensures in
    let meant = taken_search models call items one two three last (sought_view old) are told c.in_ok-sought.ensures.sought in
    let named = named_search models call items one two three last (sought_view old) are told c.in_ok-sought.ensures.sought (four_last first fourth items four last c.index-4.ensures) in
    let pairs = λ (m : ModelNo). in_turn (search_pairs m one last (sought_view old)) in
    let Told = λ (b : Caller) (m : ModelNo) (told : Sought). (sought_view told ≡ told_sought b m (sought_view old)) × (told.by ≡ b) × (told.model ≡ m) × ((models : List ModelInfo) → IsSoughtOver models old → IsSoughtOver models told) in
    let At = λ (b : Caller) (m : ModelNo). IsAllowed b m (pairs m) (Told b m) c.allowed_search.result in
    let own : At old.by old.model = c.allowed_search.ensures in
    let allowed = subst (At by) c.in_ok-sought.ensures.model (subst (λ (b : Caller). At b old.model) c.in_ok-sought.ensures.by own) in
    allowed_in by call.model (model_at models call.model) (λ info. StandsFor by call.model) (λ info. sought_of models (called_by call info)) (λ info. search_named models (called_by call info))
    (pairs call.model) (Told by call.model) (λ info. sought_view old) c.allowed_search.result meant named (λ info told own. own.0) allowed

pub returns-clause-by : goal.returns-clause-by
returns-clause-by c =
    let old = c.in_ok-sought.sought in
    let Told = λ (told : Sought). (sought_view told ≡ told_sought old.by old.model (sought_view old)) × (told.by ≡ old.by) × (told.model ≡ old.model) × ((models : List ModelInfo) → IsSoughtOver models old → IsSoughtOver models told) in
    IfOk-weaker c.allowed_search.result Told _ (λ told own. own.1 ∙ c.in_ok-sought.ensures.by)
    (allowed_ok old.by old.model (in_turn (search_pairs old.model c.index.result.now c.index-4.result.now (sought_view old))) Told c.allowed_search.result c.allowed_search.ensures)

pub returns-clause-model : goal.returns-clause-model
returns-clause-model c =
    let old = c.in_ok-sought.sought in
    let Told = λ (told : Sought). (sought_view told ≡ told_sought old.by old.model (sought_view old)) × (told.by ≡ old.by) × (told.model ≡ old.model) × ((models : List ModelInfo) → IsSoughtOver models old → IsSoughtOver models told) in
    IfOk-weaker c.allowed_search.result Told _ (λ told own. own.2 ∙ c.in_ok-sought.ensures.model)
    (allowed_ok old.by old.model (in_turn (search_pairs old.model c.index.result.now c.index-4.result.now (sought_view old))) Told c.allowed_search.result c.allowed_search.ensures)

pub returns-clause-over : goal.returns-clause-over
returns-clause-over c =
    let old = c.in_ok-sought.sought in
    let Told = λ (told : Sought). (sought_view told ≡ told_sought old.by old.model (sought_view old)) × (told.by ≡ old.by) × (told.model ≡ old.model) × ((models : List ModelInfo) → IsSoughtOver models old → IsSoughtOver models told) in
    IfOk-weaker c.allowed_search.result Told _ (λ told own. own.3 c.args.schema.now c.in_ok-sought.ensures.over)
    (allowed_ok old.by old.model (in_turn (search_pairs old.model c.index.result.now c.index-4.result.now (sought_view old))) Told c.allowed_search.result c.allowed_search.ensures)
