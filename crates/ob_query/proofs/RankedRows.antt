-- Rows that are sorted by their keys are in the order of what they hold.
use Rattle.std.proofs.Common.{◌≡◌, ℕ, zero, suc, ◌+◌, ◌<◌, Bool, true, false, List, [], ◌∷◌, map, length, get_or, drop, refl, sym, ap, ◌∙◌, arith, is_lt}
use Rattle.std.specs.Cmp.{tied_itself}
use Rattle.std.specs.Cmp.Lexicographic.{slice_cmp}
use Rattle.std.specs.List.Sorted.{IsPermutation, IsSorted}
use Rattle.std.specs.Ordering.{nat_cmp, ordering_then}
use Rattle.std.specs.declared.cmp.Ordering.{Ordering}
use Rattle.std.specs.declared.cmp.Ordering.TheVariants.{Less, Equal, Greater}
use Rattle.std.proofs.lemmas.List.{drop-map, get_or-map, length-map, take-map}
use Rattle.std.proofs.lemmas.List.Sorted.{All-permutation, IsPermutation-map}
use Rattle.ob_base.specs.declared.id.FieldNo.{FieldNo}
use Rattle.ob_base.specs.declared.id.RecId.{RecId}
use Rattle.ob_base.specs.declared.value.Value.{Value}
use Rattle.ob_base.specs.declared.value.Value.TheVariants as value
use Rattle.ob_query.specs.SearchKeys.{AreKeyed, key_of, key_order, ranked_order, unset_last_total}
use Rattle.ob_query.specs.SearchOrder.{AreOrdered, by_direction, limited, row_order, unset_last, window}
use Rattle.ob_query.specs.declared.searching.order.Key.{Key}
use Rattle.ob_query.specs.declared.searching.order.Ranked.{Ranked}
use Rattle.ob_schema.specs.declared.info.OrderTerm.{OrderTerm}

-- ---- one of two orders after the other

then_none : (o : Ordering) → ordering_then o Equal ≡ o
then_none Less = refl
then_none Equal = refl
then_none Greater = refl

then_then : (a b c : Ordering) → ordering_then (ordering_then a b) c ≡ ordering_then a (ordering_then b c)
then_then Less b c = refl
then_then Equal b c = refl
then_then Greater b c = refl

-- ---- keys

-- unset is like unset
unset_alike : unset_last value.Nil value.Nil ≡ Equal
unset_alike = tied_itself unset_last_total value.Nil

-- two keys of one term are ordered by its direction
pub same_term : (descending : Bool) (v w : Value) → key_order (record { descending = descending; value = v }) (record { descending = descending; value = w }) ≡ by_direction descending v w
same_term false v w = ap (ordering_then (unset_last v w)) unset_alike ∙ then_none (unset_last v w)
same_term true v w = ap (λ (o : Ordering). ordering_then o (unset_last w v)) unset_alike

module _ (held : FieldNo → RecId → Value) where
  -- the keys of two rows, and then their ids
  by_keys : List OrderTerm → RecId → RecId → Ordering
  by_keys terms a b = ordering_then (slice_cmp key_order (map (key_of held a) terms) (map (key_of held b) terms)) (nat_cmp a.0 b.0)

  keys_order : (terms : List OrderTerm) (a b : RecId) → by_keys terms a b ≡ row_order held terms a b
  unfolding by_keys
  keys_order [] a b = refl
  keys_order (term ∷ terms) a b =
      then_then (key_order (key_of held a term) (key_of held b term)) (slice_cmp key_order (map (key_of held a) terms) (map (key_of held b) terms)) (nat_cmp a.0 b.0)
      ∙ ap (λ (o : Ordering). ordering_then o (by_keys terms a b)) (same_term term.descending (held term.field a) (held term.field b))
      ∙ ap (ordering_then (by_direction term.descending (held term.field a) (held term.field b))) (keys_order terms a b)

  -- what is said of a row that has its keys
  abbrev IsKeyed : List OrderTerm → Ranked → Type 0
  IsKeyed terms row = row.keys.items ≡ map (key_of held row.id) terms

  ranked_as : (terms : List OrderTerm) (x y : Ranked) → IsKeyed terms x → IsKeyed terms y → ranked_order x y ≡ row_order held terms x.id y.id
  unfolding by_keys
  ranked_as terms x y a b =
      ap (λ (ks : List Key). ordering_then (slice_cmp key_order ks y.keys.items) (nat_cmp x.id.0 y.id.0)) a
      ∙ ap (λ (ks : List Key). ordering_then (slice_cmp key_order (map (key_of held x.id) terms) ks) (nat_cmp x.id.0 y.id.0)) b
      ∙ keys_order terms x.id y.id

  abbrev its_id : Ranked → RecId
  its_id row = row.id

  -- rows that rise by their keys rise by what they hold
  pub rises : (terms : List OrderTerm) (rows : List Ranked) → AreKeyed held terms rows → IsSorted ranked_order rows → IsSorted (row_order held terms) (map its_id rows)
  rises terms [] keyed up = λ k d low lt. absurd (omega arith)
  rises terms (x ∷ xs) keyed up = λ k d low lt.
      let rows = x ∷ xs in
      let size : length (map its_id rows) ≡ length rows = length-map rows its_id in
      let next : k + 1 < length rows = omega arith in
      let here : k < length rows = omega arith in
      ap is_lt (ap (λ (a : RecId). row_order held terms a (get_or (map its_id rows) k d)) (get_or-map its_id rows (k + 1) x d next)
      ∙ ap (row_order held terms (its_id (get_or rows (k + 1) x))) (get_or-map its_id rows k x d here)
      ∙ sym (ranked_as terms (get_or rows (k + 1) x) (get_or rows k x) (keyed (k + 1) x next) (keyed k x here)))
      ∙ up k x low next

-- ---- some of them

limited-map : {A B : Type 0} (f : A → B) (n : ℕ) (xs : List A) → limited n (map f xs) ≡ map f (limited n xs)
limited-map f zero xs = refl
limited-map f (suc n) xs = take-map f (suc n) xs

-- the ids of some rows are some of the ids
pub window-map : {A B : Type 0} (f : A → B) (offset limit : ℕ) (xs : List A) → window offset limit (map f xs) ≡ map f (window offset limit xs)
window-map f offset limit xs = ap (limited limit) (drop-map f offset xs) ∙ limited-map f limit (drop offset xs)

-- the ids of rows that were sorted are the ordered ones
pub sorted-ordered : (held : FieldNo → RecId → Value) (terms : List OrderTerm) (offset limit : ℕ) (rows sorted : List Ranked) (ids : List RecId) → AreKeyed held terms rows → IsPermutation rows sorted → IsSorted ranked_order sorted
    → ids ≡ map (λ (row : Ranked). row.id) (window offset limit sorted) → AreOrdered held terms offset limit (map (λ (row : Ranked). row.id) rows) ids
sorted-ordered held terms offset limit rows sorted ids keyed moved up are = record {
  ordered = map (λ (row : Ranked). row.id) sorted;
  same = IsPermutation-map (λ (row : Ranked). row.id) rows sorted moved;
  rising = rises held terms sorted (All-permutation (λ (row : Ranked). row.keys.items ≡ map (key_of held row.id) terms) rows sorted moved keyed) up;
  cut = are ∙ sym (window-map (λ (row : Ranked). row.id) offset limit sorted);
}
