use Rattle.std.proofs.Common.{◌≡◌, List, Option, Some, None, option_map, Bor, refl, sym, ap, ◌∙◌}
use Rattle.std.specs.Prelude.{option_and_then, slice_get}
use Rattle.ob_query.proofs.CallerLemmas.{by_items, get-map, got-at}
use Rattle.ob_group.specs.GroupForms.{item_at, not_null}
use Rattle.ob_group.specs.GroupParts.{json_view}
use Rattle.serde_json.specs.Data.{Data}
use Rattle.serde_json.specs.View.{view}
use Rattle.serde_json.specs.declared.value.Value.{Value}
use Rattle.ob_group.proofs.written.item_at.Goals as goal

pub returns-in_err-get : goal.returns-in_err-get
returns-in_err-get c =
    let n = c.args.number in
    let items = c.as_slice.result.now in
    let got : slice_get items n ≡ None = sym (got-at items n c.get.result c.get.ensures.lookup) ∙ ap (option_map (λ (x : Bor Value). x.now)) c.in_err-get.was in
    ap json_view c.from_residual.ensures ∙ sym (ap (option_and_then not_null) (get-map view items n ∙ ap (option_map view) got))
    ∙ by_items (item_at n) (λ (ds : List Data). option_and_then not_null (slice_get ds n)) c.args.json.now c.in-Array.items items c.in-Array.is c.as_slice.ensures.value refl

pub returns : goal.returns
returns c =
    let n = c.args.number in
    let items = c.as_slice.result.now in
    let got : slice_get items n ≡ Some c.in_ok-get.field-0.now = sym (got-at items n c.get.result c.get.ensures.lookup) ∙ ap (option_map (λ (x : Bor Value). x.now)) c.in_ok-get.was in
    c.not_null.ensures ∙ sym (ap (option_and_then not_null) (get-map view items n ∙ ap (option_map view) got))
    ∙ by_items (item_at n) (λ (ds : List Data). option_and_then not_null (slice_get ds n)) c.args.json.now c.in-Array.items items c.in-Array.is c.as_slice.ensures.value refl
