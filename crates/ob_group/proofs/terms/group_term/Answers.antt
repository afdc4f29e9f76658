use Rattle.std.proofs.Common.{◌≡◌, ℕ, Option, map, option_map, rules, tests, ◌∙◌, sym, ap}
use Rattle.std.proofs.lemmas.Iterator.{YieldsList-from_slice}
use Rattle.std.proofs.lemmas.Iterator.Search.{position_from_yields_List}
use Rattle.std.specs.Prelude.{bytes_eq}
use Rattle.ob_query.proofs.CallerLemmas.{position-map}
use Rattle.ob_group.specs.GroupForms as forms
use Rattle.ob_group.specs.GroupParts.{grouping_view, term_view}
use Rattle.ob_group.specs.declared.groupings.Grouping.{Grouping}
use Rattle.ob_group.proofs.terms.group_term.Goals as goal

pub returns-in_err-number : goal.returns-in_err-number
returns-in_err-number c =
    let used = c.args.used.now in
    let entry = c.args.entry.now in
    let found = position_from_yields_List (λ (g : Grouping). bytes_eq g.text.now entry.name.now) _ _ c.position.result c.position.ensures.ran (YieldsList-from_slice used cc) (λ x b q k. search (rules, tests)) in
    let mk : ℕ → forms.GroupTerm = λ (n : ℕ). record { number = n; descending = entry.descending } in
    ap (option_map term_view) c.from_residual.ensures ∙ ap (option_map mk) (sym (c.in_err-number.was) ∙ found ∙ sym (position-map (λ (g : forms.Grouping). bytes_eq g.text entry.name.now) grouping_view used))

pub returns : goal.returns
returns c =
    let used = c.args.used.now in
    let entry = c.args.entry.now in
    let found = position_from_yields_List (λ (g : Grouping). bytes_eq g.text.now entry.name.now) _ _ c.position.result c.position.ensures.ran (YieldsList-from_slice used cc) (λ x b q k. search (rules, tests)) in
    let mk : ℕ → forms.GroupTerm = λ (n : ℕ). record { number = n; descending = entry.descending } in
    ap (option_map mk) (sym (c.in_ok-number.was) ∙ found ∙ sym (position-map (λ (g : forms.Grouping). bytes_eq g.text entry.name.now) grouping_view used))
