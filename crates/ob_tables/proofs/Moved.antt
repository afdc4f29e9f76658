-- What a list keeps in another order: its items, and that no two of them have one number.
use Rattle.std.proofs.Common.{◌≡◌, ◌≤◌, ◌+◌, ℕ, zero, suc, Bool, true, false, cond, List, [], ◌∷◌, Option, Some, None, option_map, refl, sym, ap, ◌∙◌, arith, count_by, eqb-true, eq-eqb}
use Rattle.std.specs.Prelude.{nat_eq, slice_get}
use Rattle.std.specs.List.{AllByRecursion, cons_option, filter_map, Contains}
use Rattle.std.specs.List.Sorted.{IsPermutation, IsStrictlySortedBy}
use Rattle.std.specs.Ordering.{nat_cmp}
use Rattle.std.specs.declared.cmp.Ordering.TheVariants.{Less}
use Rattle.std.proofs.lemmas.Cmp.{ranked}
use Rattle.std.proofs.lemmas.List.Sorted.{Contains-permutation, sum_by-IsPermutation}
use Rattle.std.proofs.lemmas.List.Sums.{sum_by-cons}
use Rattle.std.proofs.lemmas.Map.Keys.{sorted_head, sorted_tail}
use Rattle.std.proofs.lemmas.Option.{get_or_from_slice_get, same_Some, slice_get-get_or, slice_get_within}
use Rattle.ob_tables.proofs.RowIds.{HasAt}

-- an item stands in the list in another order too
pub at-moved : {X : Type 0} (xs ys : List X) (x : X) → IsPermutation xs ys → HasAt xs x → HasAt ys x
at-moved xs ys x moved h =
    let c : Contains ys x = Contains-permutation xs ys x moved (h.0, slice_get_within xs h.0 x h.1, get_or_from_slice_get xs h.0 x x h.1) in
    (c.0, slice_get-get_or ys c.0 x c.1 ∙ ap Some c.2)

module _ {X : Type 0} (number : X → ℕ) where
  abbrev is : ℕ → X → Bool
  is n x = nat_eq (number x) n

  -- each number is there once at most
  abbrev pub Once : List X → Type 0
  Once xs = (n : ℕ) → count_by (is n) xs ≤ 1

  pub count-more : (n : ℕ) (x : X) (xs : List X) → count_by (is n) (x ∷ xs) ≡ cond (is n x) 1 0 + count_by (is n) xs
  count-more n x xs = sum_by-cons (λ x. cond (is n x) 1 0) x xs

  count-here : (n : ℕ) (x : X) (xs : List X) → number x ≡ n → count_by (is n) (x ∷ xs) ≡ 1 + count_by (is n) xs
  count-here n x xs e = count-more n x xs ∙ ap (λ b. cond b 1 0 + count_by (is n) xs) (eq-eqb (number x) n e)

  counted : (xs : List X) (k : ℕ) (x : X) (n : ℕ) → slice_get xs k ≡ Some x → number x ≡ n → 1 ≤ count_by (is n) xs
  counted [] k x n at e = cc
  counted (y ∷ xs) zero x n at e = let h = count-here n y xs (ap number (same_Some y x at) ∙ e) in omega (arith, h)
  counted (y ∷ xs) (suc k) x n at e = let h = counted xs k x n at e in let m = count-more n y xs in omega (arith, h, m)

  once-rest : (y : X) (xs : List X) → Once (y ∷ xs) → Once xs
  once-rest y xs once n = let h = once n in let m = count-more n y xs in omega (arith, h, m)

  -- so two places that have one number are one
  pub once-at : (xs : List X) (i j : ℕ) (x y : X) → Once xs → slice_get xs i ≡ Some x → slice_get xs j ≡ Some y → number x ≡ number y → i ≡ j
  once-at [] i j x y once a b same = cc
  once-at (z ∷ xs) zero zero x y once a b same = refl
  once-at (z ∷ xs) zero (suc j) x y once a b same =
      let one = once (number y) in
      let first = count-here (number y) z xs (ap number (same_Some z x a) ∙ same) in
      let more = counted xs j y (number y) b refl in
      absurd (omega (arith, one, first, more))
  once-at (z ∷ xs) (suc i) zero x y once a b same =
      let one = once (number x) in
      let first = count-here (number x) z xs (ap number (same_Some z y b) ∙ sym same) in
      let more = counted xs i x (number x) a refl in
      absurd (omega (arith, one, first, more))
  once-at (z ∷ xs) (suc i) (suc j) x y once a b same = ap suc (once-at xs i j x y (once-rest z xs once) a b same)

  -- in another order too
  pub once-moved : (xs ys : List X) → IsPermutation xs ys → Once xs → Once ys
  once-moved xs ys moved once n = let same = sum_by-IsPermutation (λ x. cond (is n x) 1 0) xs ys moved in let h = once n in omega (arith, same, h)

  none-above : (n : ℕ) (x : X) (xs : List X) → number x ≡ n → AllByRecursion (λ y. nat_cmp (number x) (number y) ≡ Less) xs → count_by (is n) xs ≡ 0
  none-above n x [] same h = refl
  none-above n x (y ∷ xs) same h = count-more n y xs ∙ by (is n y) refl (none-above n x xs same h.1)
    where
      by : (b : Bool) → is n y ≡ b → count_by (is n) xs ≡ 0 → cond b 1 0 + count_by (is n) xs ≡ 0
      by false e rest = omega (arith, rest)
      by true e rest = let less = ranked (number x) (number y) Less (sym h.0) in let at = eqb-true (number y) n e in absurd (omega (arith, less, at, same))

  -- numbers that rise are there once
  pub once-rising : (xs : List X) → IsStrictlySortedBy (λ a b. nat_cmp (number a) (number b)) xs → Once xs
  once-rising [] h n = let none : count_by (is n) [] ≡ 0 = refl in omega arith
  once-rising (x ∷ xs) h n = by (is n x) refl (once-rising xs (sorted_tail (λ a b. nat_cmp (number a) (number b)) x xs h) n)
    where
      by : (b : Bool) → is n x ≡ b → count_by (is n) xs ≤ 1 → count_by (is n) (x ∷ xs) ≤ 1
      by false e rest = let m = count-more n x xs ∙ ap (λ b. cond b 1 0 + count_by (is n) xs) e in omega (arith, m, rest)
      by true e rest =
          let m = count-more n x xs ∙ ap (λ b. cond b 1 0 + count_by (is n) xs) e in
          let none = none-above n x xs (eqb-true (number x) n e) (sorted_head (λ a b. nat_cmp (number a) (number b)) x xs h) in
          omega (arith, m, none)

module _ {I V : Type 0} (value : I → Option V) where
  abbrev valued : I → Option (I × V)
  valued i = option_map (λ v. (i, v)) (value i)

  -- those that have a value, with it
  abbrev pub with_values : List I → List (I × V)
  with_values is = filter_map valued is

  -- each of them is one of the list, with its value
  pub at-valued : (is : List I) (k : ℕ) (p : I × V) → slice_get (with_values is) k ≡ Some p → HasAt is p.0 × (value p.0 ≡ Some p.1)
  at-valued [] k p e = cc
  at-valued (i ∷ is) k p e = by (value i) refl k e (λ k e. at-valued is k p e)
    where
      further : HasAt is p.0 × (value p.0 ≡ Some p.1) → HasAt (i ∷ is) p.0 × (value p.0 ≡ Some p.1)
      further r = ((suc r.0.0, r.0.1), r.1)

      by : (o : Option V) → value i ≡ o → (k : ℕ) → slice_get (cons_option (option_map (λ v. (i, v)) o) (with_values is)) k ≡ Some p
          → ((k : ℕ) → slice_get (with_values is) k ≡ Some p → HasAt is p.0 × (value p.0 ≡ Some p.1)) → HasAt (i ∷ is) p.0 × (value p.0 ≡ Some p.1)
      by None is_none k e again = further (again k e)
      by (Some v) is_some zero e again = let same : (i, v) ≡ p = same_Some (i, v) p e in ((0, ap (λ (p : I × V). Some p.0) same), ap value (sym (ap (λ (p : I × V). p.0) same)) ∙ is_some ∙ ap (λ (p : I × V). Some p.1) same)
      by (Some v) is_some (suc k) e again = further (again k e)

  -- and each that has a value is among them
  pub valued-at : (is : List I) (k : ℕ) (i : I) (v : V) → slice_get is k ≡ Some i → value i ≡ Some v → HasAt (with_values is) (i, v)
  valued-at [] k i v e has = cc
  valued-at (j ∷ is) zero i v e has = (0, ap (λ o. slice_get (cons_option (option_map (λ v. (j, v)) o) (with_values is)) 0) (ap value (same_Some j i e) ∙ has) ∙ ap (λ j. Some (j, v)) (same_Some j i e))
  valued-at (j ∷ is) (suc k) i v e has = by (value j) (valued-at is k i v e has)
    where
      by : (o : Option V) → HasAt (with_values is) (i, v) → HasAt (cons_option (option_map (λ v. (j, v)) o) (with_values is)) (i, v)
      by None h = h
      by (Some w) h = (suc h.0, h.1)

  module _ (number : I → ℕ) where
    fewer : (n : ℕ) (is : List I) → count_by (λ p. nat_eq (number p.0) n) (with_values is) ≤ count_by (λ i. nat_eq (number i) n) is
    fewer n [] = let none : count_by (λ (p : I × V). nat_eq (number p.0) n) [] ≡ 0 = refl in omega arith
    fewer n (i ∷ is) = by (value i) (fewer n is)
      where
        by : (o : Option V) → count_by (λ p. nat_eq (number p.0) n) (with_values is) ≤ count_by (λ i. nat_eq (number i) n) is
            → count_by (λ p. nat_eq (number p.0) n) (cons_option (option_map (λ v. (i, v)) o) (with_values is)) ≤ count_by (λ i. nat_eq (number i) n) (i ∷ is)
        by None rest = let m = count-more number n i is in omega (arith, m, rest)
        by (Some v) rest = let m = count-more number n i is in let w = count-more (λ (p : I × V). number p.0) n (i, v) (with_values is) in omega (arith, m, w, rest)

    -- numbers that are there once are there once among those with values
    pub once-valued : (is : List I) → Once number is → Once (λ (p : I × V). number p.0) (with_values is)
    once-valued is once n = let h = once n in let f = fewer n is in omega (arith, h, f)
