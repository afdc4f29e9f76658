-- Each entry has its term, in turn.
use Rattle.std.proofs.Common.{◌≡◌, false, List, Option, ◌∷◌, [], ◌++◌, map, get_or, ap, sym, subst, ◌∙◌}
use Rattle.std.specs.Prelude.{option_map, unwrap_or}
use Rattle.std.proofs.lemmas.List.{take_all}
use Rattle.ob_definition.specs.declared.orders.OrderEntry.{OrderEntry}
use Rattle.ob_definition.specs.declared.gathering.GivenOrder.{GivenOrder}
use Rattle.ob_definition.specs.ByName.{given_order}
use Rattle.ob_definition.specs.Orders.{Term, terms_of}
use Rattle.ob_schema.specs.declared.info.OrderTerm.{OrderTerm}
use Rattle.ob_registry.specs.Building.{AreNumbers}
use Rattle.ob_schema.specs.Built.{given_terms}
use Rattle.ob_registry.specs.Faults.{HasUnknown, names_of_terms}
use Rattle.ob_registry.specs.ModelFields.{named_in}
use Rattle.ob_registry.proofs.Somes.{none_from, none_more, read_within, some_more, somes}
use Rattle.ob_registry.proofs.TermsOf.{term_at, term_found, terms_directed, terms_numbered}
use Rattle.ob_registry.proofs.building.order_of.Goals as goal
use Rattle.ob_registry.proofs.building.order_of.Goals.{in-Some-number+in_ok-push, in_default-number}

pub loop-entry-preserved : goal.loop-entry-preserved
loop-entry-preserved c =
    let items = c.as_slice-entry-items.result.now in
    let members = named_in c.args.model.now.named c.args.model.now.members.items in
    let i = c.loop-entry.entry-index in
    let none : OrderEntry = record { name = record { ref_ptr = (0, 0); now = [] }; descending = false } in
    let entry = get_or items i none in
    let is : entry ≡ get_or items i entry = read_within items i none entry c.loop-entry-test.true in
    let answer : term_found members entry ≡ term_at entry.descending c.number.result = ap (term_at entry.descending) (sym c.number.ensures.at) in
    elim c.match-number.branch [
      | in-Some-number+in_ok-push w ↦
          (let term : OrderTerm = record { field = w.in-Some-number.field; descending = entry.descending } in
          w.terms-is ∙ w.in_ok-push.ensures.ok ∙ ap (λ (l : List OrderTerm). l ++ term ∷ []) c.loop-entry.invariant
          ∙ sym (some_more (term_found members) items i entry term c.loop-entry-test.true is (answer ∙ ap (term_at entry.descending) w.in-Some-number.is)))
      | in_default-number w ↦
          w.terms-is ∙ c.loop-entry.invariant
          ∙ sym (none_more (term_found members) items i entry c.loop-entry-test.true is (answer ∙ ap (term_at entry.descending) (none_from c.number.result w.in_default-number.not-Some)))
    ]

pub returns-clause-fields : goal.returns-clause-fields
returns-clause-fields c =
    let items = c.as_slice-entry-items.result.now in
    let members = named_in c.args.model.now.named c.args.model.now.members.items in
    let whole = take_all c.loop-entry.entry-index items c.loop-entry-test.false in
    let all : c.loop-entry.terms ≡ somes (map (term_found members) items) = c.loop-entry.invariant ∙ ap (λ (l : List OrderEntry). somes (map (term_found members) l)) whole in
    let given : terms_of items ≡ given_terms (given_order c.args.order) =
    ap terms_of c.as_slice-entry-items.ensures ∙ ap (λ (r : Option (List OrderEntry)). unwrap_or (option_map terms_of r) []) (sym c.in-Some-2.is) ∙ ap (λ (t : Option (List Term)). unwrap_or t []) c.in_ok-entries.ensures
    ∙ ap (λ (o : Option GivenOrder). given_terms (given_order o)) (sym c.in-Some.is) in
    subst (λ (terms : List OrderTerm). AreNumbers members (names_of_terms (given_terms (given_order c.args.order))) (map (λ t. t.field) terms)) (sym all)
    (subst (λ (l : List Term). AreNumbers members (names_of_terms l) (map (λ t. t.field) (somes (map (term_found members) items)))) given (terms_numbered members items))

pub returns-clause-directions : goal.returns-clause-directions
returns-clause-directions c =
    let items = c.as_slice-entry-items.result.now in
    let members = named_in c.args.model.now.named c.args.model.now.members.items in
    let whole = take_all c.loop-entry.entry-index items c.loop-entry-test.false in
    let all : c.loop-entry.terms ≡ somes (map (term_found members) items) = c.loop-entry.invariant ∙ ap (λ (l : List OrderEntry). somes (map (term_found members) l)) whole in
    let given : terms_of items ≡ given_terms (given_order c.args.order) =
    ap terms_of c.as_slice-entry-items.ensures ∙ ap (λ (r : Option (List OrderEntry)). unwrap_or (option_map terms_of r) []) (sym c.in-Some-2.is) ∙ ap (λ (t : Option (List Term)). unwrap_or t []) c.in_ok-entries.ensures
    ∙ ap (λ (o : Option GivenOrder). given_terms (given_order o)) (sym c.in-Some.is) in
    subst (λ (terms : List OrderTerm). (HasUnknown members (names_of_terms (given_terms (given_order c.args.order))) → ⊥) → map (λ t. t.descending) terms ≡ map (λ (t : Term). t.descending) (given_terms (given_order c.args.order))) (sym all)
    (subst (λ (l : List Term). (HasUnknown members (names_of_terms l) → ⊥) → map (λ (t : OrderTerm). t.descending) (somes (map (term_found members) items)) ≡ map (λ (t : Term). t.descending) l) given (terms_directed members items))
