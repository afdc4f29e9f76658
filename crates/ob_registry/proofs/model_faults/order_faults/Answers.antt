use Rattle.std.proofs.Common.{◌∙◌, Option, sym, ap}
use Rattle.std.specs.Prelude.{option_map}
use Rattle.std.proofs.lemmas.Result.{IfOk-weaker}
use Rattle.ob_definition.specs.declared.gathering.GivenOrder.{GivenOrder}
use Rattle.ob_definition.specs.Gathered.{Gathered, order_at}
use Rattle.ob_registry.specs.ModelFields.{named_in}
use Rattle.ob_registry.proofs.ModelRooms.{no_order_told, order_told}
use Rattle.ob_registry.proofs.model_faults.order_faults.Goals as goal

pub returns-in_ok-wrong_order-in-Some : goal.returns-in_ok-wrong_order-in-Some
returns-in_ok-wrong_order-in-Some c =
    let members = named_in c.args.model.now.named c.args.model.now.members.items in
    let order = c.in-Some.order in
    IfOk-weaker c.at_entry.result _ _
    (λ _ adds. order_told members c.args.model.now.gathered.now.order (order_at order.entry order.text.now) c.in_ok-wrong_order-in-Some.field-0 _ _
    (ap (λ (g : Gathered). g.order) (sym c.gathered.view_is) ∙ ap (λ (o : Option GivenOrder). option_map (λ o. order_at o.entry o.text.now) o) c.in-Some.is) c.in_ok-wrong_order-in-Some.ensures adds) c.at_entry.ensures.found

pub returns-in-None : goal.returns-in-None
returns-in-None c =
    let members = named_in c.args.model.now.named c.args.model.now.members.items in
    no_order_told members c.args.model.now.gathered.now.order c.args.first.now
    (ap (λ (g : Gathered). g.order) (sym c.gathered.view_is) ∙ ap (λ (o : Option GivenOrder). option_map (λ o. order_at o.entry o.text.now) o) c.in-None.is)
