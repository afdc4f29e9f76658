-- Rows with what they hold for the terms of an order, as they are sorted.
use Rattle.std.specs.Prelude.{◌≡◌, List, map, All, false, if◌then◌else◌}
use Rattle.std.specs.Cmp.Lexicographic.{slice_cmp}
use Rattle.std.specs.Cmp.{IsTotalOrder, back_total, bool_cmp_total, on_total, then_total}
use Rattle.std.specs.Ordering.{bool_cmp, flip_args, nat_cmp, on, then_cmp}
use Rattle.ob_base.proofs.CallerLemmas.{value_order_total}
use Rattle.std.specs.declared.cmp.Ordering.{Ordering}
use Rattle.ob_base.specs.declared.id.FieldNo.{FieldNo}
use Rattle.ob_base.specs.declared.id.RecId.{RecId}
use Rattle.ob_base.specs.declared.value.Value.{Value}
use Rattle.ob_base.specs.declared.value.Value.TheVariants as value
use Rattle.ob_domain.specs.Passing.{is_unset}
use Rattle.ob_query.specs.SearchOrder.{unset_last}
use Rattle.ob_query.specs.declared.searching.order.Key.{Key}
use Rattle.ob_query.specs.declared.searching.order.Ranked.{Ranked}
use Rattle.ob_schema.specs.declared.info.OrderTerm.{OrderTerm}

-- the value of a key by which rows rise, and of one by which they fall; unset for the other
abbrev pub rising_value : Key → Value
rising_value key = if key.descending then value.Nil else key.value

abbrev pub falling_value : Key → Value
falling_value key = if key.descending then key.value else value.Nil

-- two keys of one term by its direction; of two directions rising is below falling
abbrev pub key_order : Key → Key → Ordering
key_order = then_cmp (on (λ key. key.descending) bool_cmp) (then_cmp (on rising_value unset_last) (on falling_value (flip_args unset_last)))

-- by the keys in turn, then by id
abbrev pub ranked_order : Ranked → Ranked → Ordering
ranked_order = then_cmp (on (λ row. row.keys.items) (slice_cmp key_order)) (on (λ row. row.id.0) nat_cmp)

-- what a row holds for a term
abbrev pub key_of : (FieldNo → RecId → Value) → RecId → OrderTerm → Key
key_of held id term = record { descending = term.descending; value = held term.field id }

-- each row has its keys
abbrev pub AreKeyed : (FieldNo → RecId → Value) → List OrderTerm → List Ranked → Type 0
AreKeyed held terms rows = All (λ row. row.keys.items ≡ map (key_of held row.id) terms) rows

-- that the order of keys is total, which its `Ord` says
pub unset_last_total : IsTotalOrder unset_last
unset_last_total = then_total (on_total is_unset bool_cmp_total) value_order_total

pub key_order_total : IsTotalOrder key_order
key_order_total = then_total (on_total (λ key. key.descending) bool_cmp_total) (then_total (on_total rising_value unset_last_total) (on_total falling_value (back_total unset_last_total)))

-- the key by which things rise by a value
abbrev pub rising : Value → Key
rising v = record { descending = false; value = v }
