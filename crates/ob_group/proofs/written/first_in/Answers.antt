use Rattle.std.proofs.Common.{◌≡◌, ◌+◌, [], ℕ, List, Bor, Option, Some, None, get_or, option_map, drop, map, sym, ap, rules, ◌∙◌}
use Rattle.std.specs.Prelude.{option_and_then, slice_get}
use Rattle.ob_call.specs.Forms.{fields_at}
use Rattle.ob_query.proofs.CallerLemmas.{map-past}
use Rattle.ob_group.proofs.GroupTexts.{texts-none, texts-some}
use Rattle.ob_group.specs.GroupForms.{Grouping, first_in, grouping_of}
use Rattle.serde_json.specs.Find.{as_str}
use Rattle.serde_json.specs.View.{view}
use Rattle.ob_group.proofs.written.first_in.Goals as goal

pub returns-in-Some : goal.returns-in-Some
returns-in-Some c =
    let items = c.args.items.now in
    let i = c.loop-item.item-index in
    let item = c.item-item.result in
    let at : item ≡ get_or items i item = search rules in
    let first = λ (texts : List (List ℕ)). option_and_then (grouping_of (fields_at c.args.schema.now c.args.model)) (slice_get texts 0) in
    let text : as_str (view item) ≡ Some c.in-Some.text.now = sym c.as_str.ensures ∙ ap (option_map (λ (s : Bor (List ℕ)). s.now)) c.in-Some.is in
    c.grouping_of.ensures.grouping ∙ sym (c.loop-item.invariant ∙ ap first (texts-some items i item c.loop-item-test.true at c.in-Some.text.now text))

pub loop-item-preserved : goal.loop-item-preserved
loop-item-preserved c =
    let items = c.args.items.now in
    let i = c.loop-item.item-index in
    let item = c.item-item.result in
    let at : item ≡ get_or items i item = search rules in
    let first = λ (texts : List (List ℕ)). option_and_then (grouping_of (fields_at c.args.schema.now c.args.model)) (slice_get texts 0) in
    let none : as_str (view item) ≡ None = sym c.as_str.ensures ∙ ap (option_map (λ (s : Bor (List ℕ)). s.now)) c.in_default.is in
    c.loop-item.invariant ∙ ap first (texts-none items i item c.loop-item-test.true at none)

pub returns : goal.returns
returns c = sym (c.loop-item.invariant ∙ ap (first_in (fields_at c.args.schema.now c.args.model)) (map-past view c.args.items.now c.loop-item.item-index c.loop-item-test.false))
