use Rattle.std.proofs.Common.{◌≡◌, [], List, map, option_map, string_bytes, ap, ◌∙◌}
use Rattle.std.specs.Prelude.{option_and_then, unwrap_or}
use Rattle.ob_call.specs.ArgumentsSteps.{given_of}
use Rattle.ob_group.proofs.GroupsAsked.{groups_joined, used-view}
use Rattle.ob_group.specs.GroupForms as forms
use Rattle.ob_group.specs.GroupForms.{group_terms}
use Rattle.ob_group.specs.GroupParts.{aggregate_view, grouping_view, terms_view, written_view}
use Rattle.ob_query.specs.SearchParts.{sought_view}
use Rattle.ob_group.proofs.asked.groups_by.Goals as goal

pub returns-clause-asked : goal.returns-clause-asked
returns-clause-asked c =
    let models = c.args.schema.now in
    let call = c.args.call.now in
    let given = c.args.arguments in
    let written = c.in_ok-written.written in
    let order = option_map given_of given.order in
    let terms : terms_view c.in_ok-terms.terms ≡ unwrap_or (option_and_then (λ g. group_terms (forms.used (written_view written)) g.json) order) [] = c.in_ok-terms.ensures
    ∙ ap (λ (gs : List forms.Grouping). unwrap_or (option_and_then (λ g. group_terms gs g.json) order) []) (ap (map grouping_view) c.used.ensures ∙ used-view written) in
    groups_joined models call.model call (sought_view c.in_ok-sought.sought) (written_view written) (string_bytes c.in_ok-count_key.count_key) (map aggregate_view c.in_ok-aggregates.aggregates.items) (terms_view c.in_ok-terms.terms) c.count_given.result c.count_given-2.result
    (option_map given_of given.domain) (option_map given_of given.fields) (option_map given_of given.groupby) (option_map given_of given.offset) (option_map given_of given.limit) order (option_map given_of given.lazy) c.in_ok-sought.ensures.sought c.in_ok-written.ensures.written
    c.in_ok-count_key.ensures c.in_ok-aggregates.ensures.aggregates terms c.count_given.ensures c.count_given-2.ensures
