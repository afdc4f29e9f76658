use Rattle.std.proofs.Common.{◌≡◌, ◌∙◌, Some, ap, sym, List}
use Rattle.std.specs.Prelude.{option_map}
use Rattle.ob_definition.specs.declared.orders.OrderEntry.{OrderEntry}
use Rattle.ob_definition.specs.Orders.{order_terms, terms_of}
use Rattle.ob_registry.specs.ModelFields.{named_in}
use Rattle.ob_registry.proofs.NameTests.{tells_order}
use Rattle.ob_registry.proofs.model_faults.wrong_order.Goals as goal

pub returns : goal.returns
returns c =
    let members = named_in c.args.model.now.named c.args.model.now.members.items in
    let text = c.args.order.text.now in
    let terms : order_terms text ≡ Some (terms_of c.as_slice.result.now) =
    sym c.in_ok-entries.ensures ∙ ap (option_map terms_of) c.in-Some.is ∙ ap (λ (l : List OrderEntry). Some (terms_of l)) (sym c.as_slice.ensures) in
    tells_order members text (terms_of c.as_slice.result.now) c.wrong_entries.result terms c.wrong_entries.ensures
