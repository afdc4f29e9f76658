use Rattle.ob_call.specs.Forms.{fields_at}
use Rattle.ob_definition.specs.Orders.{term_of_entry}
use Rattle.ob_definition.specs.declared.orders.OrderEntry.{OrderEntry}
use Rattle.ob_query.specs.SearchForms.{order_term}
use Rattle.ob_query.proofs.SearchFields.{IsGivenTo}
use Rattle.ob_schema.specs.Models.{HasField}
use Rattle.ob_schema.specs.declared.info.OrderTerm.{OrderTerm}
use Rattle.std.specs.Prelude.{All}
use Rattle.ob_query.proofs.searching.forms.terms_of.Given as goal

-- the terms so far
abbrev pub invariant-loop-entry : goal.invariant-loop-entry
invariant-loop-entry l = record {
  given : IsGivenTo (λ (entry : OrderEntry). order_term (fields_at l.schema l.model) (term_of_entry entry)) l.entries l.entry-index l.terms;
  there : All (λ (term : OrderTerm). HasField l.schema l.model term.field) l.terms;
}
