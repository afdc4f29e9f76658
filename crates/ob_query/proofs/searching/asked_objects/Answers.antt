use Rattle.std.proofs.Common.{◌≡◌, codes, false, Option, Vec, Global, List, filter, get_or, ap, sym, subst, ◌∙◌}
use Rattle.std.specs.Prelude.{All, IfSome}
use Rattle.std.proofs.lemmas.List.Elements.{All-filter}
use Rattle.std.proofs.lemmas.Option.{IfSome_then}
use Rattle.std.proofs.lemmas.Result.{IfOk-weaker, err_from_is_err_and}
use Rattle.serde_json.specs.View.{view}
use Rattle.ob_base.specs.declared.id.FieldNo.{FieldNo}
use Rattle.ob_base.specs.declared.id.ModelNo.{ModelNo}
use Rattle.ob_call.specs.Arguments.{Expected}
use Rattle.ob_call.specs.ArgumentsSteps.{all_given_of}
use Rattle.ob_call.specs.Called.{called_by}
use Rattle.ob_call.specs.Forms.{fields_at, names_fault}
use Rattle.ob_call.specs.declared.arguments.Given.{Given}
use Rattle.ob_query.proofs.GrantedFields.{allowed_in, allowed_ok, denied_by}
use Rattle.ob_query.proofs.SearchReadAnswers.{StandsForObjects, five_are, five_first, five_given, five_last, named_objects, objects_pairs, taken_objects, told_stands}
use Rattle.ob_query.specs.Callers.{IsAllowed, in_turn, may_read_field}
use Rattle.ob_query.specs.NamedFields.{objects_named}
use Rattle.ob_query.specs.SearchForms as forms
use Rattle.ob_query.specs.SearchForms.{count_fault, domain_expected, limit_expected, objects_by, objects_of, order_fault, search_read_expects}
use Rattle.ob_query.specs.SearchParts.{IsToldObjects, objects_view, sought_view}
use Rattle.ob_query.specs.declared.caller.Caller.{Caller}
use Rattle.ob_query.specs.declared.searching.sought.SoughtObjects.{SoughtObjects}
use Rattle.ob_schema.specs.Models.{HasField, model_at}
use Rattle.ob_schema.specs.Paths.{step_at}
use Rattle.ob_schema.specs.declared.info.ModelInfo.{ModelInfo}
use Rattle.ob_query.proofs.searching.asked_objects.Goals as goal

pub objects_by-requires-clause-judged : goal.objects_by-requires-clause-judged
objects_by-requires-clause-judged c =
    let models = c.args.schema.now in
    let call = c.args.call.now in
    let fields = fields_at models call.model in
    let items = c.in_ok-given.given.items in
    let fit = rw c.search_read_parameters-expected.ensures.expects at c.in_ok-given.ensures.fit in
    let first : Expected = domain_expected models call.model false in
    let second : Expected = record { name = codes "fields"; required = false; fault = names_fault fields } in
    let third : Expected = record { name = codes "offset"; required = false; fault = count_fault } in
    let fifth : Expected = record { name = codes "order"; required = false; fault = order_fault fields } in
    five_first first second fifth items (five_given first second third limit_expected fifth items fit) c.index.result.now c.index.ensures

pub returns-in_err-given-clause-asked : goal.returns-in_err-given-clause-asked
returns-in_err-given-clause-asked c =
    let p = err_from_is_err_and c.from_residual.result c.from_residual.ensures.1 in
    let models = c.args.schema.now in
    let call = c.args.call.now in
    let told = rw c.search_read_parameters-expected.ensures.expects at c.in_err-given.ensures.told in
    rw (p.1, p.2) (denied_by c.args.by models call.model (λ (given : Vec (Option Given) Global). all_given_of given.items) (StandsForObjects c.args.by call.model) (search_read_expects models call.model)
    (λ info gs. objects_by models (called_by call info) gs) (λ info. objects_named models (called_by call info)) (view call.args.now) (view call.kw.now) c.in_err-given.field-0.0 told)

pub returns-clause-asked : goal.returns-clause-asked
returns-clause-asked c =
    let models = c.args.schema.now in
    let call = c.args.call.now in
    let by = c.args.by in
    let fields = fields_at models call.model in
    let items = c.in_ok-given.given.items in
    let expects = c.search_read_parameters-expected.ensures.expects in
    let told = rw expects at c.in_ok-given.ensures.told in
    let fit = rw expects at c.in_ok-given.ensures.fit in
    let first : Expected = domain_expected models call.model false in
    let second : Expected = record { name = codes "fields"; required = false; fault = names_fault fields } in
    let third : Expected = record { name = codes "offset"; required = false; fault = count_fault } in
    let fifth : Expected = record { name = codes "order"; required = false; fault = order_fault fields } in
    let five = five_given first second third limit_expected fifth items fit in
    let one = c.index.result.now in
    let two = c.index-2.result.now in
    let three = c.index-3.result.now in
    let last = c.index-4.result.now in
    let names = c.index-5.result.now in
    let his = c.index-6.result.now in
    let old = c.in_ok-asked.asked in
    let are = five_are first second fifth items five one names two three last c.index.ensures c.index-5.ensures c.index-2.ensures c.index-3.ensures c.index-4.ensures in
    let again = five_are first second fifth items five one his two three last c.index.ensures c.index-6.ensures c.index-2.ensures c.index-3.ensures c.index-4.ensures in
    let same : his ≡ names = ap (λ (l : List (Option Given)). get_or l 1 one) (sym again ∙ are) in
    let meant = taken_objects models call items one names two three last (λ info. objects_view info old) are told c.in_ok-asked.ensures.asked in
    let rows = IfSome_then (model_at models call.model) c.in_ok-asked.ensures.asked (λ info is. ap (λ (s : forms.SoughtObjects). s.sought) is) in
    let named = named_objects models call items one names two three last (sought_view old.sought) are told rows (five_last first second fifth items five last c.index-4.ensures) in
    let pairs_by = λ (n : Option Given) (m : ModelNo). in_turn (objects_pairs (fields_at models m) m one n last (sought_view old.sought)) in
    let pairs = pairs_by names in
    let At = λ (b : Caller) (m : ModelNo). IsAllowed b m (pairs m) (IsToldObjects old) c.allowed_objects.result in
    let first_of : At old.sought.by old.sought.model =
    subst (λ (n : Option Given). IsAllowed old.sought.by old.sought.model (pairs_by n old.sought.model) (IsToldObjects old) c.allowed_objects.result) same c.allowed_objects.ensures in
    let allowed = subst (At by) c.in_ok-asked.ensures.model (subst (λ (b : Caller). At b old.sought.model) c.in_ok-asked.ensures.by first_of) in
    allowed_in by call.model (model_at models call.model) (StandsForObjects by call.model) (λ info. objects_of models (called_by call info)) (λ info. objects_named models (called_by call info)) (pairs call.model) (IsToldObjects old)
    (λ info. objects_view info old) c.allowed_objects.result meant named (λ info told own. told_stands by call.model info old told c.in_ok-asked.ensures.by c.in_ok-asked.ensures.model own) allowed

pub returns-clause-by : goal.returns-clause-by
returns-clause-by c =
    let old = c.in_ok-asked.asked in
    IfOk-weaker c.allowed_objects.result (IsToldObjects old) _ (λ told own. own.by ∙ c.in_ok-asked.ensures.by)
    (allowed_ok old.sought.by old.sought.model (in_turn (objects_pairs (fields_at c.args.schema.now old.sought.model) old.sought.model c.index.result.now c.index-6.result.now c.index-4.result.now (sought_view old.sought))) (IsToldObjects old)
    c.allowed_objects.result c.allowed_objects.ensures)

pub returns-clause-model : goal.returns-clause-model
returns-clause-model c =
    let old = c.in_ok-asked.asked in
    IfOk-weaker c.allowed_objects.result (IsToldObjects old) _ (λ told own. own.model ∙ c.in_ok-asked.ensures.model)
    (allowed_ok old.sought.by old.sought.model (in_turn (objects_pairs (fields_at c.args.schema.now old.sought.model) old.sought.model c.index.result.now c.index-6.result.now c.index-4.result.now (sought_view old.sought))) (IsToldObjects old)
    c.allowed_objects.result c.allowed_objects.ensures)

pub returns-clause-over : goal.returns-clause-over
returns-clause-over c =
    let old = c.in_ok-asked.asked in
    IfOk-weaker c.allowed_objects.result (IsToldObjects old) _ (λ told own. own.over c.args.schema.now c.in_ok-asked.ensures.over)
    (allowed_ok old.sought.by old.sought.model (in_turn (objects_pairs (fields_at c.args.schema.now old.sought.model) old.sought.model c.index.result.now c.index-6.result.now c.index-4.result.now (sought_view old.sought))) (IsToldObjects old)
    c.allowed_objects.result c.allowed_objects.ensures)

pub returns-clause-there : goal.returns-clause-there
returns-clause-there c =
    let old = c.in_ok-asked.asked in
    IfOk-weaker c.allowed_objects.result (IsToldObjects old) _ (λ told own. subst (All (HasField c.args.schema.now c.args.call.now.model)) (sym own.fields) (All-filter (λ (field : FieldNo). may_read_field old.sought.by (step_at old.sought.model field)) (HasField c.args.schema.now c.args.call.now.model) old.fields.items c.in_ok-asked.ensures.there))
    (allowed_ok old.sought.by old.sought.model (in_turn (objects_pairs (fields_at c.args.schema.now old.sought.model) old.sought.model c.index.result.now c.index-6.result.now c.index-4.result.now (sought_view old.sought))) (IsToldObjects old)
    c.allowed_objects.result c.allowed_objects.ensures)
