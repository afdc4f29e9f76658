-- The values of the groupings that are used, ordered by the terms.
use Rattle.std.proofs.Common.{◌≡◌, List, map, subst, ap, ◌∙◌}
use Rattle.ob_base.specs.declared.value.Value.{Value}
use Rattle.ob_group.proofs.GroupsAsked.{used-view}
use Rattle.ob_group.specs.GroupForms as forms
use Rattle.ob_group.specs.GroupParts.{asked_view, grouping_view, sort_keys, term_view, terms_view}
use Rattle.ob_group.specs.Groups.{keys_of}
use Rattle.ob_query.specs.Search.{held_of}
use Rattle.ob_group.specs.declared.groupings.Grouping.{Grouping}
use Rattle.ob_group.specs.declared.terms.GroupTerm.{GroupTerm}
use Rattle.ob_group.proofs.gathered.keys_of_row.Goals as goal

pub returns-clause-told : goal.returns-clause-told
returns-clause-told g c = λ told tells.
    let asked = c.args.asked.now in
    let held = held_of told asked.sought.model in
    let own = ap (λ (groupings : List Grouping). keys_of held (map grouping_view groupings) c.args.id) c.groupings.ensures ∙ ap (λ (groupings : List forms.Grouping). keys_of held groupings c.args.id) (used-view asked.written) in
    c.in_ok-sort_keys.ensures.keys
    ∙ ap (λ (terms : List GroupTerm). sort_keys (map term_view terms) c.as_slice-2.result.now) c.as_slice.ensures.value
    ∙ ap (sort_keys (terms_view asked.terms)) (c.as_slice-2.ensures.value ∙ c.in_ok-values.ensures.told told tells ∙ own)
