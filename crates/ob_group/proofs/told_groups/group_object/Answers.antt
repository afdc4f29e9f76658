use Rattle.std.proofs.Common.{◌≡◌, ◌∷◌, ℕ, List, length, map, false, sym, ap, subst, ◌∙◌}
use Rattle.std.proofs.lemmas.List.{length-map}
use Rattle.ob_base.specs.declared.value.Value.{Value}
use Rattle.ob_call.proofs.CallerLemmas.{put_plain}
use Rattle.ob_codec.specs.CommandForms.{number_json}
use Rattle.ob_group.specs.GroupParts.{aggregate_view, asked_view, own_keys, row_of, rows_items}
use Rattle.ob_group.specs.Groups.{TellsAmounts, TellsKeys, rows_of}
use Rattle.ob_group.specs.declared.aggregates.Aggregate.{Aggregate}
use Rattle.serde_json.proofs.Views.{view-Object}
use Rattle.serde_json.specs.Data.{Data, Members, no_members, put}
use Rattle.serde_json.specs.View.{members_view, view}
use Rattle.serde_json.specs.Written.{has_float, members_have_float}
use Rattle.ob_group.proofs.told_groups.group_object.Goals as goal

pub put_amounts-requires : goal.put_amounts-requires
put_amounts-requires c =
    subst (λ (m : Members). members_have_float m ≡ false) (sym c.in_ok-put_member.ensures)
    (put_plain c.as_str.result.now (view c.from.result) (members_view c.put_keys.new.members.entries) (ap has_float c.from.ensures) c.in_ok-put_keys.ensures.plain)

pub returns-clause-told : goal.returns-clause-told
returns-clause-told c = λ held ids is.
    let asked = asked_view c.args.asked.now in
    let own = own_keys asked c.args.group.now in
    let found = rows_of held asked.groupings ids own in
    let named = members_view c.put_keys.new.members.entries in
    let counted = members_view c.put_member.new.members.entries in
    let done = members_view c.put_amounts.new.members.entries in
    let rows = c.as_slice-rows.result.now in
    let keys : TellsKeys asked.groupings own no_members named = subst (λ (m : Members). TellsKeys asked.groupings own m named) (ap members_view c.new-members.ensures.empty) (c.in_ok-put_keys.ensures.told is.sized) in
    let same : rows_items rows ≡ map (row_of held asked.aggregates) found = ap rows_items c.as_slice-rows.ensures.value ∙ is.rows in
    let size : length rows ≡ length found = sym (length-map rows (λ row. row.items)) ∙ ap length same ∙ length-map found (row_of held asked.aggregates) in
    let count : counted ≡ put asked.count_key (number_json (length found)) named =
    c.in_ok-put_member.ensures ∙ ap (λ (d : Data). put c.as_str.result.now d named) (c.from.ensures ∙ ap number_json size) ∙ ap (λ (name : List ℕ). put name (number_json (length found)) named) c.as_str.ensures.value in
    let aggregates = c.as_slice.ensures.value in
    let amounts : TellsAmounts held found asked.aggregates counted done =
    subst (λ (l : List Aggregate). TellsAmounts held found (map aggregate_view l) counted done) aggregates
    (c.in_ok-put_amounts.ensures.told held found (same ∙ ap (λ (l : List Aggregate). map (row_of held (map aggregate_view l)) found) (sym aggregates))) in
    (named, done, keys, subst (λ (m : Members). TellsAmounts held found asked.aggregates m done) count amounts, view-Object c.put_amounts.new.members)
