use Rattle.std.proofs.Common.{List, ap, subst, sym, ◌∙◌}
use Rattle.std.specs.Slice.{IsItemAt}
use Rattle.serde_json.proofs.Views.{view-Array}
use Rattle.serde_json.specs.Data.{Data}
use Rattle.serde_json.specs.View.{view}
use Rattle.serde_json.specs.declared.value.Value.{Value as Json}
use Rattle.ob_commands.proofs.OtherNames.{item-found}
use Rattle.ob_commands.specs.Holding as spec
use Rattle.ob_commands.proofs.holding.item_at.Goals as goal

pub returns-in-Array : goal.returns-in-Array
returns-in-Array c =
    let vs = c.in-Array.items.items in
    let item = subst (λ (xs : List Json). IsItemAt xs c.args.position c.get.result) c.deref.ensures.value c.get.ensures.lookup in
    item-found vs c.args.position c.get.result item ∙ sym (ap (λ (d : Data). spec.item_at c.args.position d) (ap view c.in-Array.is ∙ view-Array c.in-Array.items))
