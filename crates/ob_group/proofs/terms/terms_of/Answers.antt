use Rattle.std.proofs.Common.{◌≡◌, List, ◌∷◌, [], ◌++◌, ◌+◌, Some, map, option_map, sym, ap, subst, ◌∙◌, arith}
use Rattle.std.proofs.lemmas.Grind.{common_steps}
use Rattle.std.proofs.lemmas.List.{map-append}
use Rattle.ob_definition.specs.Orders.{term_of_entry}
use Rattle.ob_definition.specs.declared.orders.OrderEntry.{OrderEntry}
use Rattle.ob_query.proofs.CallerLemmas.{IsGivenTo, given-all, given-more, given-stop, of-entries}
use Rattle.ob_group.specs.GroupForms as forms
use Rattle.ob_group.specs.GroupForms.{group_term}
use Rattle.ob_group.specs.GroupParts.{grouping_view, term_view}
use Rattle.ob_group.specs.declared.terms.GroupTerm.{GroupTerm}
use Rattle.ob_group.proofs.terms.terms_of.Goals as goal

pub returns-in-None : goal.returns-in-None
returns-in-None c =
    let gs = map grouping_view c.args.used.now in
    let entries = c.args.entries.now in
    sym (of-entries (group_term gs) term_of_entry entries
    ∙ given-stop (λ (entry : OrderEntry). group_term gs (term_of_entry entry)) entries c.loop-entry.entry-index (map term_view c.loop-entry.terms.items) _ c.loop-entry-test.true (sym c.in-None.ensures) c.loop-entry.invariant)

pub loop-entry-preserved : goal.loop-entry-preserved
loop-entry-preserved c =
    let gs = map grouping_view c.args.used.now in
    let f = λ (entry : OrderEntry). group_term gs (term_of_entry entry) in
    let entries = c.args.entries.now in
    let i = c.loop-entry.entry-index in
    let term = c.in-Some.term in
    let pushed : c.push.new.self.items ≡ c.loop-entry.terms.items ++ term ∷ [] = grind (arith, common_steps) in
    subst (λ (l : List forms.GroupTerm). IsGivenTo f entries (i + 1) l) (sym (ap (map term_view) pushed ∙ map-append term_view c.loop-entry.terms.items (term ∷ [])))
    (given-more f entries i (map term_view c.loop-entry.terms.items) _ (term_view term) c.loop-entry-test.true (sym c.in-Some.ensures) c.loop-entry.invariant)

pub returns : goal.returns
returns c =
    let gs = map grouping_view c.args.used.now in
    let entries = c.args.entries.now in
    sym (of-entries (group_term gs) term_of_entry entries ∙ given-all (λ (entry : OrderEntry). group_term gs (term_of_entry entry)) entries c.loop-entry.entry-index (map term_view c.loop-entry.terms.items) c.loop-entry-test.false c.loop-entry.invariant)
