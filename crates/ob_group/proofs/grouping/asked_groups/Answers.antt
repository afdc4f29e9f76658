use Rattle.std.proofs.Common.{◌≡◌, codes, true, false, map, Option, None, Vec, Global, ap, subst, sym, ◌∙◌}
use Rattle.std.specs.Prelude.{IfSome}
use Rattle.std.proofs.lemmas.Option.{IfSome_then}
use Rattle.std.proofs.lemmas.Result.{IfOk-weaker, err_from_is_err_and}
use Rattle.serde_json.specs.View.{view}
use Rattle.ob_base.specs.declared.id.ModelNo.{ModelNo}
use Rattle.ob_call.specs.Arguments.{Expected}
use Rattle.ob_call.specs.ArgumentsSteps.{all_given_of}
use Rattle.ob_call.specs.Called.{called_by}
use Rattle.ob_call.specs.Forms.{fields_at}
use Rattle.ob_call.specs.declared.arguments.Given.{Given}
use Rattle.ob_query.proofs.CallerLemmas.{allowed_in, denied_by}
use Rattle.ob_group.proofs.GroupsAnswers.{StandsForGroups}
use Rattle.ob_group.proofs.GroupsAsked.{groups_pairs, named_groups, seven_are, seven_first, seven_given, taken_groups}
use Rattle.ob_query.specs.Callers.{IsAllowed, in_turn}
use Rattle.ob_group.specs.GroupForms as forms
use Rattle.ob_group.specs.GroupForms.{aggregates_fault, group_order_fault, groupings_fault, groups_by, groups_expects, groups_of, truth_fault, used, written_of}
use Rattle.ob_group.specs.GroupParts.{asked_view}
use Rattle.ob_group.specs.NamedGroups.{groups_named}
use Rattle.ob_query.specs.SearchForms.{count_fault, domain_expected, limit_expected}
use Rattle.ob_query.specs.SearchParts.{sought_view}
use Rattle.ob_query.specs.declared.caller.Caller.{Caller}
use Rattle.ob_group.specs.declared.asked.AskedGroups.{AskedGroups}
use Rattle.ob_group.specs.declared.groupings.Grouping.{Grouping}
use Rattle.ob_schema.specs.Models.{model_at}
use Rattle.ob_schema.specs.Paths.{step_at}
use Rattle.ob_group.proofs.grouping.asked_groups.Goals as goal

pub groups_by-requires-clause-judged : goal.groups_by-requires-clause-judged
groups_by-requires-clause-judged c =
    let models = c.args.schema.now in
    let call = c.args.call.now in
    let fields = fields_at models call.model in
    let written = written_of fields (view call.args.now) (view call.kw.now) in
    let items = c.in_ok-given.given.items in
    let fit = rw c.groups_parameters-expected.ensures.expects at c.in_ok-given.ensures.fit in
    let first : Expected = domain_expected models call.model true in
    let second : Expected = record { name = codes "fields"; required = true; fault = aggregates_fault fields written } in
    let third : Expected = record { name = codes "groupby"; required = true; fault = groupings_fault fields } in
    let fourth : Expected = record { name = codes "offset"; required = false; fault = count_fault } in
    let sixth : Expected = record { name = codes "orderby"; required = false; fault = group_order_fault (used written) } in
    let seventh : Expected = record { name = codes "lazy"; required = false; fault = truth_fault } in
    seven_first first items (seven_given first second third fourth limit_expected sixth seventh items fit) c.index.result.now c.index.ensures

pub returns-in_err-given-clause-asked : goal.returns-in_err-given-clause-asked
returns-in_err-given-clause-asked c =
    let p = err_from_is_err_and c.from_residual.result c.from_residual.ensures.1 in
    let models = c.args.schema.now in
    let call = c.args.call.now in
    let told = rw c.groups_parameters-expected.ensures.expects at c.in_err-given.ensures.told in
    rw (p.1, p.2) (denied_by c.args.by models call.model (λ (given : Vec (Option Given) Global). all_given_of given.items) (λ info. StandsForGroups)
    (λ infos. groups_expects models call.model infos (written_of infos (view call.args.now) (view call.kw.now))) (λ info gs. groups_by models (called_by call info) gs) (λ info. groups_named models (called_by call info))
    (view call.args.now) (view call.kw.now) c.in_err-given.field-0.0 told)

pub returns-clause-asked : goal.returns-clause-asked
returns-clause-asked c =
    let models = c.args.schema.now in
    let call = c.args.call.now in
    let by = c.args.by in
    let fields = fields_at models call.model in
    let written = written_of fields (view call.args.now) (view call.kw.now) in
    let items = c.in_ok-given.given.items in
    let expects = c.groups_parameters-expected.ensures.expects in
    let told = rw expects at c.in_ok-given.ensures.told in
    let fit = rw expects at c.in_ok-given.ensures.fit in
    let first : Expected = domain_expected models call.model true in
    let second : Expected = record { name = codes "fields"; required = true; fault = aggregates_fault fields written } in
    let third : Expected = record { name = codes "groupby"; required = true; fault = groupings_fault fields } in
    let fourth : Expected = record { name = codes "offset"; required = false; fault = count_fault } in
    let sixth : Expected = record { name = codes "orderby"; required = false; fault = group_order_fault (used written) } in
    let seventh : Expected = record { name = codes "lazy"; required = false; fault = truth_fault } in
    let seven = seven_given first second third fourth limit_expected sixth seventh items fit in
    let one = c.index.result.now in
    let two = c.index-2.result.now in
    let three = c.index-3.result.now in
    let four = c.index-4.result.now in
    let five = c.index-5.result.now in
    let six = c.index-6.result.now in
    let last = c.index-7.result.now in
    let old = c.in_ok-asked.asked in
    let are = seven_are first items seven one two three four five six last c.index.ensures c.index-2.ensures c.index-3.ensures c.index-4.ensures c.index-5.ensures c.index-6.ensures c.index-7.ensures in
    let meant = taken_groups models call items one two three four five six last (asked_view old) are told c.in_ok-asked.ensures.asked in
    let rows = IfSome_then (model_at models call.model) c.in_ok-asked.ensures.asked (λ info is. ap (λ (a : forms.AskedGroups). a.sought) is) in
    let named = named_groups models call items one two three four five six last (sought_view old.sought) old.written are told rows c.in_ok-asked.ensures.written in
    let pairs = λ (m : ModelNo). in_turn (groups_pairs (fields_at models m) m one two three (sought_view old.sought) (map (λ (g : Grouping). step_at m g.field) old.written.groupings.items)) in
    let Told = λ (told : AskedGroups). told ≡ old in
    let At = λ (b : Caller) (m : ModelNo). IsAllowed b m (pairs m) Told c.allowed_groups.result in
    let own : At old.sought.by old.sought.model = c.allowed_groups.ensures in
    let allowed = subst (At by) c.in_ok-asked.ensures.model (subst (λ (b : Caller). At b old.sought.model) c.in_ok-asked.ensures.by own) in
    allowed_in by call.model (model_at models call.model) (λ info. StandsForGroups) (λ info. groups_of models (called_by call info)) (λ info. groups_named models (called_by call info)) (pairs call.model) Told (λ info. asked_view old)
    c.allowed_groups.result meant named (λ info told own. sym (ap asked_view own)) allowed
