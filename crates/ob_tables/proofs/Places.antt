-- The places of ids that rise.
use Rattle.std.proofs.Common.{◌≡◌, ◌<◌, ◌+◌, ◌↔◌, ℕ, List, [], ◌∷◌, length, map, get_or, Some, Result, Ok, Err, sym, ap, subst, ◌∙◌, ⊎_elim, arith}
use Rattle.std.specs.Prelude.{slice_get, false}
use Rattle.std.specs.List.{AllByRecursion}
use Rattle.std.specs.List.Sorted.{IsBinarySearchResult, IsSearchInRange, IsSortedBy, IsStrictlyIncreasing, IsStrictlySortedBy}
use Rattle.std.specs.Ordering.{is_lt, nat_cmp}
use Rattle.std.specs.Cmp.{nat_cmp_total, tied_itself}
use Rattle.std.specs.Result.{result_ok}
use Rattle.std.specs.declared.cmp.Ordering.TheVariants.{Less, Equal, Greater}
use Rattle.std.proofs.Math.ListN.{get_or-map}
use Rattle.std.proofs.lemmas.Bool.{cases_lt}
use Rattle.std.proofs.lemmas.Bool.Decides.{nat_tests}
use Rattle.std.proofs.lemmas.Cmp.{ranked}
use Rattle.std.proofs.lemmas.List.{length-map}
use Rattle.std.proofs.lemmas.List.Kept.{AllPairs-from_increasing}
use Rattle.std.proofs.lemmas.List.Sorted.{searchable_from_sorted}
use Rattle.std.proofs.lemmas.Map.Keys.{IsStrictlyIncreasing-from_sorted}
use Rattle.std.proofs.lemmas.Option.{get_or_from_slice_get, none-some, same_Some, slice_get-get_or, slice_get_within}
use Rattle.ob_base.specs.declared.id.FieldNo.{FieldNo}
use Rattle.ob_base.specs.declared.id.ModelNo.{ModelNo}
use Rattle.ob_base.specs.declared.id.RecId.{RecId}
use Rattle.ob_schema.specs.Plain.{names, naming}
use Rattle.ob_schema.specs.Tables.{Tables, ids_in, kept_in, rows_in}
use Rattle.ob_tables.proofs.Rising.{chosen-rise, id_cmp, ids-rise}

above_all : (a : RecId) (ids : List RecId) → AllByRecursion (λ b. id_cmp a b ≡ Less) ids → AllByRecursion (λ n. nat_cmp a.0 n ≡ Less) (map (λ i. i.0) ids)
above_all a [] h = tt
above_all a (x ∷ ids) h = (h.0, above_all a ids h.1)

by_numbers : (ids : List RecId) → IsStrictlySortedBy id_cmp ids → IsStrictlySortedBy nat_cmp (map (λ i. i.0) ids)
unfolding IsStrictlySortedBy
by_numbers [] h = tt
by_numbers (x ∷ ids) h = (above_all x ids h.0, by_numbers ids h.1)

-- the ids of a model rise
pub ids-increase : (t : Tables) (model : ModelNo) → IsStrictlyIncreasing (map (λ i. i.0) (ids_in t model))
ids-increase t model = IsStrictlyIncreasing-from_sorted (map (λ i. i.0) (ids_in t model)) (by_numbers (ids_in t model) (ids-rise model t))

-- and so do those of the rows that name one
pub naming-increase : (t : Tables) (model : ModelNo) (field : FieldNo) (id : RecId) → IsStrictlyIncreasing (map (λ i. i.0) (naming t model field id))
naming-increase t model field id =
    IsStrictlyIncreasing-from_sorted (map (λ i. i.0) (naming t model field id))
    (by_numbers (naming t model field id) (chosen-rise (λ entry. names id (kept_in entry.1 field)) (rows_in t model) (ids-rise model t)))

module _ (ids : List RecId) (rising : IsStrictlyIncreasing (map (λ i. i.0) ids)) where
  none : RecId
  none = record { 0 = 0 }

  far : (i j : ℕ) (d : RecId) → i < j → j < length ids → (get_or ids i d).0 < (get_or ids j d).0
  far i j d less low =
      let named = λ (i : RecId). i.0 in
      let within : j < length (map named ids) = omega (arith, length-map ids named) in
      rw (get_or-map named ids i d, get_or-map named ids j d) at (AllPairs-from_increasing (map named ids) rising i j d.0 less within)

  -- an id further on is greater
  pub place-below : (i j : ℕ) (x y : RecId) → slice_get ids i ≡ Some x → slice_get ids j ≡ Some y → i < j → x.0 < y.0
  place-below i j x y a b less =
      subst (λ z. z.0 < y.0) (get_or_from_slice_get ids i x x a) (subst (λ z. (get_or ids i x).0 < z.0) (get_or_from_slice_get ids j y x b) (far i j x less (slice_get_within ids j y b)))

  -- an id stands at one place
  pub one-place : (i j : ℕ) (x : RecId) → slice_get ids i ≡ Some x → slice_get ids j ≡ Some x → i ≡ j
  one-place i j x a b =
      ⊎_elim (λ less. let wrong : x.0 < x.0 = place-below i j x x a b less in absurd (omega arith))
      (λ above. ⊎_elim (λ less. let wrong : x.0 < x.0 = place-below j i x x b a less in absurd (omega arith)) (λ below. omega arith) (cases_lt j i))
      (cases_lt i j)

  not_lt : (a b : ℕ) → a < b → is_lt (nat_cmp b a) ≡ false
  not_lt a b h = grind (arith, nat_tests)

  sorted : IsSortedBy (λ (a b : RecId). is_lt (nat_cmp a.0 b.0)) ids
  sorted k d from low = not_lt (get_or ids k d).0 (get_or ids (k + 1) d).0 (far k (k + 1) d (omega arith) low)

  equal_id : (a x : RecId) → nat_cmp a.0 x.0 ≡ Equal → a ≡ x
  equal_id a x e = let same : a.0 ≡ x.0 = ranked a.0 x.0 Equal (sym e) in ap (λ n. record { 0 = n }) same

  -- what a binary search tells of an id
  pub place-found : (x : RecId) (r : Result ℕ ℕ) → IsSearchInRange r (length ids) → IsBinarySearchResult (λ y. nat_cmp y.0 x.0) ids r → (at : ℕ) → (result_ok r ≡ Some at) ↔ (slice_get ids at ≡ Some x)
  place-found x (Ok i) low found at =
      let is : slice_get ids i ≡ Some x = slice_get-get_or ids i x low ∙ ap Some (equal_id (get_or ids i x) x (found x)) in
      (λ e. subst (λ n. slice_get ids n ≡ Some x) (same_Some i at e) is, λ e. ap Some (one-place i at x is e))
  place-found x (Err i) low found at = (λ e. absurd (none-some at e), λ e. absurd (gone e))
    where
      gone : slice_get ids at ≡ Some x → ⊥
      gone e =
          let parts = found (searchable_from_sorted nat_cmp_total (λ (y : RecId). y.0) ids x.0 sorted) in
          let inside = slice_get_within ids at x e in
          let is = get_or_from_slice_get ids at x x e in
          ⊎_elim
          (λ less. let h = subst (λ (y : RecId). nat_cmp y.0 x.0 ≡ Less) is (parts.0 at x (omega arith) less) in let wrong : Equal ≡ Less = sym (tied_itself nat_cmp_total x.0) ∙ h in cc)
          (λ above. let h = subst (λ (y : RecId). nat_cmp y.0 x.0 ≡ Greater) is (parts.1 at x above inside) in let wrong : Equal ≡ Greater = sym (tied_itself nat_cmp_total x.0) ∙ h in cc)
          (cases_lt at i)
