-- A list's operands are those of its items.
use Rattle.std.proofs.Common.{◌≡◌, List, map, ap, subst, ◌∙◌}
use Rattle.ob_domain.proofs.Each.{listed_items}
use Rattle.ob_domain.specs.Operands.{each_of, item_from}
use Rattle.ob_domain.specs.Places.{IsResult}
use Rattle.serde_json.proofs.Views.{view-Array}
use Rattle.serde_json.specs.Data.{array}
use Rattle.serde_json.specs.View.{items_view, view}
use Rattle.serde_json.specs.declared.value.Value.{Value}
use Rattle.ob_domain.proofs.operand.operands_of.Goals as goal

pub returns-in-Array : goal.returns-in-Array
returns-in-Array c =
    let vs = c.in-Array.items.items in
    let same : view c.args.json.now ≡ array (items_view vs) = ap view c.in-Array.is ∙ view-Array c.in-Array.items in
    let told = subst (λ (xs : List Value). IsResult (λ os. os) c.values_of.result (each_of (item_from c.args.field.now) (map view xs))) c.as_slice.ensures.value c.values_of.ensures in
    rw (same, listed_items (map view vs)) told
