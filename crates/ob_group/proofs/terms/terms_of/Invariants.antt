use Rattle.std.proofs.Common.{map}
use Rattle.ob_definition.specs.Orders.{term_of_entry}
use Rattle.ob_definition.specs.declared.orders.OrderEntry.{OrderEntry}
use Rattle.ob_query.proofs.CallerLemmas.{IsGivenTo}
use Rattle.ob_group.specs.GroupForms.{group_term}
use Rattle.ob_group.specs.GroupParts.{grouping_view, term_view}
use Rattle.ob_group.proofs.terms.terms_of.Given as goal

-- the terms so far
abbrev pub invariant-loop-entry : goal.invariant-loop-entry
invariant-loop-entry l = IsGivenTo (λ (entry : OrderEntry). group_term (map grouping_view l.used) (term_of_entry entry)) l.entries l.entry-index (map term_view l.terms.items)
