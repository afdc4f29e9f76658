use Rattle.std.proofs.Common.{◌≡◌, ◌==◌, ℕ, length, true, false, List, map, sym, ap, subst, ◌∙◌}
use Rattle.std.proofs.lemmas.List.{length-map}
use Rattle.std.proofs.lemmas.Result.{IfOk-weaker}
use Rattle.ob_group.proofs.GroupKeys.{all_texts, ordered_groups, whole_groups}
use Rattle.ob_group.proofs.GroupsAsked.{used-view}
use Rattle.ob_group.proofs.ToldGroups.{no-groupings, with-groupings}
use Rattle.ob_group.specs.GroupForms as forms
use Rattle.ob_group.specs.GroupParts.{asked_view, grouping_view}
use Rattle.ob_group.proofs.told_groups.groups_in_order.Goals as goal

pub returns-then-is_empty-clause-told : goal.returns-then-is_empty-clause-told
returns-then-is_empty-clause-told c =
    let asked = asked_view c.args.asked.now in
    let own = c.groupings.result.now in
    let same : map grouping_view own ≡ asked.groupings = ap (map grouping_view) c.groupings.ensures ∙ used-view c.args.asked.now.written in
    let size : length asked.groupings ≡ length own = ap length (sym same) ∙ length-map own grouping_view in
    let none : (length asked.groupings == 0) ≡ true = ap (λ (n : ℕ). n == 0) size ∙ sym c.is_empty.ensures ∙ c.if-is_empty.true in
    IfOk-weaker c.whole_group.result _ _
    (λ list whole held ids gathered. whole_groups held asked ids c.args.groups list c.requires gathered c.len-count.ensures.ordered whole (no-groupings asked.groupings none)) c.whole_group.ensures

pub returns-clause-told : goal.returns-clause-told
returns-clause-told c =
    let asked = asked_view c.args.asked.now in
    let own = c.groupings.result.now in
    let same : map grouping_view own ≡ asked.groupings = ap (map grouping_view) c.groupings.ensures ∙ used-view c.args.asked.now.written in
    let size : length asked.groupings ≡ length own = ap length (sym same) ∙ length-map own grouping_view in
    let some : (length asked.groupings == 0) ≡ false = ap (λ (n : ℕ). n == 0) size ∙ sym c.is_empty.ensures ∙ c.if-is_empty.false in
    IfOk-weaker c.listed.result _ _
    (λ list is held ids gathered. ordered_groups held asked ids c.args.groups list.items c.requires gathered c.len-count.ensures.ordered is (with-groupings held asked.groupings ids some)) c.listed.ensures

pub returns-clause-texts : goal.returns-clause-texts
returns-clause-texts c = IfOk-weaker c.listed.result _ _ (λ list is. all_texts c.args.groups list.items c.requires c.len-count.ensures.ordered is) c.listed.ensures
