-- What a binary search by name finds among what stands in byte order of its names.
use Rattle.std.proofs.Common.{◌≡◌, ℕ, ◌+◌, ◌<◌, ◌≤◌, Bool, true, false, cond, ltb, List, [], ◌∷◌, length, get_or, map, Some, None, Result, Ok, Err, inl, inr, refl, sym, ap, subst, ◌∙◌, arith, not}
use Rattle.std.proofs.lemmas.Bool.{cases_lt}
use Rattle.std.proofs.lemmas.Bool.Decides.{nat_tests}
use Rattle.std.proofs.lemmas.Cmp.{alike_right, nat_list_cmp_total}
use Rattle.std.proofs.lemmas.List.{length-map}
use Rattle.std.proofs.lemmas.List.Sums.{position_or_len_is}
use Rattle.std.proofs.lemmas.Map.Text.{is_eq-slice_cmp}
use Rattle.std.specs.Cmp.Lexicographic.{slice_cmp}
use Rattle.std.specs.List.{AllPairs, HoldsAt, position, position_or_len}
use Rattle.std.specs.List.Sorted.{IsBinarySearchResult, IsNonDecreasingBy, IsPartitionPoint, IsSearchInRange}
use Rattle.std.specs.Ordering.{is_eq, nat_cmp, ordering_index}
use Rattle.std.specs.Result.{result_ok}
use Rattle.std.specs.Str.{bytes_eq}
use Rattle.std.specs.declared.cmp.Ordering.{Ordering}
use Rattle.std.specs.declared.cmp.Ordering.TheVariants.{Less, Equal, Greater}

-- the first place that passes, and that none does
position-at : {X : Type 0} (p : X → Bool) (xs : List X) (i : ℕ) → position_or_len p xs ≡ i → i < length xs → position p xs ≡ Some i
position-at p xs i first inside =
    let below : ltb (position_or_len p xs) (length xs) ≡ true = grind (arith, nat_tests) in
    ap (λ (b : Bool). cond b (Some (position_or_len p xs)) None) below ∙ ap Some first

position-none : {X : Type 0} (p : X → Bool) (xs : List X) → position_or_len p xs ≡ length xs → position p xs ≡ None
position-none p xs none =
    let past : ltb (position_or_len p xs) (length xs) ≡ false = grind (arith, nat_tests) in
    ap (λ (b : Bool). cond b (Some (position_or_len p xs)) None) past

-- the first place among what was made of other items
first-map : {X Y : Type 0} (p : Y → Bool) (f : X → Y) (xs : List X) → position_or_len p (map f xs) ≡ position_or_len (λ x. p (f x)) xs
first-map p f [] = refl
first-map p f (x ∷ xs) = ap (λ (n : ℕ). cond (not (p (f x))) (1 + n) 0) (first-map p f xs)

pub position-map : {X Y : Type 0} (p : Y → Bool) (f : X → Y) (xs : List X) → position p (map f xs) ≡ position (λ x. p (f x)) xs
position-map p f xs =
    ap (λ (n : ℕ). cond (ltb n (length (map f xs))) (Some n) None) (first-map p f xs)
    ∙ ap (λ (n : ℕ). cond (ltb (position_or_len (λ x. p (f x)) xs) n) (Some (position_or_len (λ x. p (f x)) xs)) None) (length-map xs f)

-- what is below a text is below what ties with or is above it
compare_rises : (a b name : List ℕ) (o : Ordering) → slice_cmp nat_cmp b name ≡ o → slice_cmp nat_cmp a b ≡ Less → ordering_index (slice_cmp nat_cmp a name) ≤ ordering_index o
compare_rises a b name Less under below =
    let less : slice_cmp nat_cmp a name ≡ Less = nat_list_cmp_total.trans a b name below under in
    omega (arith, ap ordering_index less)
compare_rises a b name Equal under below =
    let less : slice_cmp nat_cmp a name ≡ Less = sym (alike_right nat_list_cmp_total b name a under) ∙ below in
    omega (arith, ap ordering_index less)
compare_rises a b name Greater under below = at_most_two (slice_cmp nat_cmp a name)
  where
    at_most_two : (o : Ordering) → ordering_index o ≤ 2
    at_most_two Less = omega arith
    at_most_two Equal = omega arith
    at_most_two Greater = omega arith

module _ {X : Type 0} (key : X → List ℕ) (name : List ℕ) where
  abbrev pub order : X → Ordering
  order x = slice_cmp nat_cmp (key x) name

  abbrev pub has_name : X → Bool
  has_name x = bytes_eq (key x) name

module _ {X : Type 0} (key : X → List ℕ) (items : List X) (ordered : AllPairs (λ a b. slice_cmp nat_cmp (key a) (key b) ≡ Less) items) (name : List ℕ) where
  comparisons_rise : IsNonDecreasingBy (λ x. ordering_index (order key name x)) items
  comparisons_rise i j d le inside =
      elim (cases_lt i j) [
        | inl before ↦ compare_rises (key (get_or items i d)) (key (get_or items j d)) name _ refl (ordered i j d before inside)
        | inr after ↦ (let same : i ≡ j = omega arith in omega (arith, ap (λ (k : ℕ). ordering_index (order key name (get_or items k d))) same))
      ]

  test-order : (x : X) (o : Ordering) → order key name x ≡ o → has_name key name x ≡ is_eq o
  test-order x o is = sym (is_eq-slice_cmp (key x) name) ∙ ap is_eq is

  found_at : (i : ℕ) (d : X) → i < length items → HoldsAt (λ x. order key name x ≡ Equal) items i → position (has_name key name) items ≡ Some i
  found_at i d inside equal =
      position-at (has_name key name) items i
      (position_or_len_is (has_name key name) items i d (omega arith)
      (λ k before. test-order (get_or items k d) Less
      (sym (alike_right nat_list_cmp_total (key (get_or items i d)) name (key (get_or items k d)) (equal d)) ∙ ordered k i d before inside))
      (λ _. test-order (get_or items i d) Equal (equal d)))
      inside

  absent_at : (i : ℕ) (d : X) → IsPartitionPoint (λ x. order key name x ≡ Less) (λ x. order key name x ≡ Greater) items i → position (has_name key name) items ≡ None
  absent_at i d parted =
      position-none (has_name key name) items
      (position_or_len_is (has_name key name) items (length items) d (omega arith)
      (λ k inside. elim (cases_lt k i) [
        | inl before ↦ test-order (get_or items k d) Less (parted.0 k d (omega arith) before)
        | inr after ↦ test-order (get_or items k d) Greater (parted.1 k d after inside)
      ])
      (λ past. absurd (omega arith)))

  searched_with : (d : X) (r : Result ℕ ℕ) → IsSearchInRange r (length items) → IsBinarySearchResult (order key name) items r → position (has_name key name) items ≡ result_ok r
  searched_with d (Ok i) inside equal = found_at i d inside equal
  searched_with d (Err i) within parted = absent_at i d (parted comparisons_rise)

  -- the search answers with the place of the name
  pub searched : (r : Result ℕ ℕ) → IsSearchInRange r (length items) → IsBinarySearchResult (order key name) items r → position (has_name key name) items ≡ result_ok r
  searched r within answer = by items refl
    where
      none : (r : Result ℕ ℕ) → IsSearchInRange r 0 → None ≡ result_ok r
      none (Ok i) inside = absurd (omega arith)
      none (Err i) inside = refl

      by : (xs : List X) → xs ≡ items → position (has_name key name) items ≡ result_ok r
      by [] e = rw (← e) (none r (let P : ℕ → Type 0 = λ n. IsSearchInRange r n in subst P (ap length (sym e)) within))
      by (d ∷ ds) e = searched_with d r within answer
