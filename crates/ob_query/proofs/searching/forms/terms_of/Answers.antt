use Rattle.std.proofs.Common.{sym, ◌∙◌}
use Rattle.std.proofs.lemmas.List.Elements.{All-push}
use Rattle.ob_call.specs.Forms.{fields_at}
use Rattle.ob_definition.specs.Orders.{term_of_entry}
use Rattle.ob_definition.specs.declared.orders.OrderEntry.{OrderEntry}
use Rattle.ob_schema.specs.Models.{HasField}
use Rattle.ob_schema.specs.declared.info.OrderTerm.{OrderTerm}
use Rattle.ob_query.specs.SearchForms.{order_term}
use Rattle.ob_query.proofs.SearchFields.{given-all, given-more, given-stop, of-entries}
use Rattle.ob_query.proofs.searching.forms.terms_of.Goals as goal

pub returns-in-None-clause-terms : goal.returns-in-None-clause-terms
returns-in-None-clause-terms c =
    let fields = fields_at c.args.schema.now c.args.model in
    let entries = c.args.entries.now in
    sym (of-entries (order_term fields) term_of_entry entries
    ∙ given-stop (λ (entry : OrderEntry). order_term fields (term_of_entry entry)) entries c.loop-entry.entry-index c.loop-entry.terms _ c.loop-entry-test.true (sym c.in-None.ensures.term) c.loop-entry.invariant.given)

pub loop-entry-preserved : goal.loop-entry-preserved
loop-entry-preserved c =
    let fields = fields_at c.args.schema.now c.args.model in
    rw c.in_ok-push-in-Some.ensures.ok
    (record {
      given = given-more (λ (entry : OrderEntry). order_term fields (term_of_entry entry)) c.args.entries.now c.loop-entry.entry-index c.loop-entry.terms _ c.in-Some.term c.loop-entry-test.true (sym c.in-Some.ensures.term) c.loop-entry.invariant.given;
      there = All-push (λ (term : OrderTerm). HasField c.args.schema.now c.args.model term.field) c.loop-entry.terms c.in-Some.term c.loop-entry.invariant.there c.in-Some.ensures.there;
    })

pub returns-clause-terms : goal.returns-clause-terms
returns-clause-terms c =
    let fields = fields_at c.args.schema.now c.args.model in
    let entries = c.args.entries.now in
    sym (of-entries (order_term fields) term_of_entry entries ∙ given-all (λ (entry : OrderEntry). order_term fields (term_of_entry entry)) entries c.loop-entry.entry-index c.loop-entry.terms c.loop-entry-test.false c.loop-entry.invariant.given)
