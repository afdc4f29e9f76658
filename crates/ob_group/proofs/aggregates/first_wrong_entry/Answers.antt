use Rattle.std.proofs.Common.{◌≡◌, ◌<◌, ◌+◌, ◌∷◌, length, drop, map, None, Some, option_map, true, false, List, ℕ, sym, ap, ◌∙◌, arith}
use Rattle.serde_json.specs.View.{view}
use Rattle.serde_json.specs.Data.{Data}
use Rattle.ob_call.specs.Forms.{fields_at}
use Rattle.ob_query.proofs.CallerLemmas.{map-left}
use Rattle.ob_group.proofs.GroupTexts.{wrong-later, wrong-none, wrong-taken}
use Rattle.ob_group.specs.GroupForms.{entry_from, first_wrong_entry, is_free, with_key}
use Rattle.ob_group.specs.GroupParts.{entry_view}
use Rattle.serde_json.specs.declared.value.Value.{Value}
use Rattle.ob_group.proofs.aggregates.first_wrong_entry.Goals as goal

pub returns-in_default : goal.returns-in_default
returns-in_default c = λ keys taken.
    let fields = fields_at c.args.schema.now c.args.model in
    let items = c.args.items.now in
    let i = c.loop-number.number in
    let item = c.index-items-number.result in
    let so_far = c.loop-number.invariant keys taken in
    let left : map view (drop i items) ≡ view item ∷ map view (drop (i + 1) items) = map-left view items i item c.loop-number-test.true ∙ ap (λ (v : Value). view v ∷ map view (drop (i + 1) items)) (sym c.index-items-number.is) in
    let none : entry_from fields (view item) ≡ None = sym c.entry_from.ensures.entry ∙ ap (option_map entry_view) c.in_default.is in
    sym (so_far.2 ∙ ap (first_wrong_entry fields so_far.0 i) left ∙ wrong-none fields so_far.0 i (view item) (map view (drop (i + 1) items)) none)

pub returns-then-not-branch : goal.returns-then-not-branch
returns-then-not-branch c = λ keys taken.
    let fields = fields_at c.args.schema.now c.args.model in
    let items = c.args.items.now in
    let i = c.loop-number.number in
    let item = c.index-items-number.result in
    let so_far = c.loop-number.invariant keys taken in
    let entry = entry_view c.in-Some.entry in
    let left : map view (drop i items) ≡ view item ∷ map view (drop (i + 1) items) = map-left view items i item c.loop-number-test.true ∙ ap (λ (v : Value). view v ∷ map view (drop (i + 1) items)) (sym c.index-items-number.is) in
    let some : entry_from fields (view item) ≡ Some entry = sym c.entry_from.ensures.entry ∙ ap (option_map entry_view) c.in-Some.is in
    let free : is_free entry so_far.0 ≡ false = sym (c.in_ok-takes_key.ensures.free so_far.0 so_far.1) ∙ c.if-not-branch.true in
    sym (so_far.2 ∙ ap (first_wrong_entry fields so_far.0 i) left ∙ wrong-taken fields so_far.0 i (view item) (map view (drop (i + 1) items)) entry some free)

pub loop-number-preserved : goal.loop-number-preserved
loop-number-preserved c = λ keys taken.
    let fields = fields_at c.args.schema.now c.args.model in
    let items = c.args.items.now in
    let i = c.loop-number.number in
    let item = c.index-items-number.result in
    let so_far = c.loop-number.invariant keys taken in
    let entry = entry_view c.in-Some.entry in
    let left : map view (drop i items) ≡ view item ∷ map view (drop (i + 1) items) = map-left view items i item c.loop-number-test.true ∙ ap (λ (v : Value). view v ∷ map view (drop (i + 1) items)) (sym c.index-items-number.is) in
    let some : entry_from fields (view item) ≡ Some entry = sym c.entry_from.ensures.entry ∙ ap (option_map entry_view) c.in-Some.is in
    let free : is_free entry so_far.0 ≡ true = sym (c.in_ok-takes_key.ensures.free so_far.0 so_far.1) ∙ c.if-not-branch.false in
    (with_key entry so_far.0, c.in_ok-takes_key.ensures.taken so_far.0 so_far.1, so_far.2 ∙ ap (first_wrong_entry fields so_far.0 i) left ∙ wrong-later fields so_far.0 i (view item) (map view (drop (i + 1) items)) entry some free)
