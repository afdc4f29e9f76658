-- Rows taken one after another off the front of those that are found.
use Rattle.std.proofs.Common.{◌≡◌, ◌≢◌, ℕ, zero, suc, ◌+◌, ◌-◌, ◌^◌, ◌<◌, ◌≤◌, true, false, List, [], ◌∷◌, ◌++◌, length, take, drop, Option, Some, None, refl, sym, ap, ◌∙◌, arith, append_assoc, length-append}
use Rattle.std.specs.Prelude.{is_some}
use Rattle.std.proofs.lemmas.List.{append-nil, length-take, take_all}
use Rattle.ob_base.specs.Limits.{max_id}
use Rattle.ob_query.specs.SearchOrder.{limited}
use Rattle.ob_query.specs.SearchQuestions.{IsTaken}

module _ {A : Type 0} where
  drop-next : (i : ℕ) (xs : List A) (x : A) (ys : List A) → drop i xs ≡ x ∷ ys → drop (i + 1) xs ≡ ys
  drop-next i [] x ys e = absurd (nothing i e) where
    nothing : (i : ℕ) → drop i [] ≡ x ∷ ys → ⊥
    nothing zero e = cc
    nothing (suc i) e = cc
  drop-next zero (z ∷ xs) x ys e = cc
  drop-next (suc i) (z ∷ xs) x ys e =
      let place : suc i + 1 ≡ suc (i + 1) = omega arith in
      ap (λ (n : ℕ). drop n (z ∷ xs)) place ∙ drop-next i xs x ys e

  drop-none : (i n : ℕ) (xs : List A) → i ≤ n → drop i xs ≡ [] → drop n xs ≡ []
  drop-none i zero [] low e = refl
  drop-none i (suc n) [] low e = refl
  drop-none zero n (x ∷ xs) low e = absurd cc
  drop-none (suc i) zero (x ∷ xs) low e = absurd (omega arith)
  drop-none (suc i) (suc n) (x ∷ xs) low e = drop-none i n xs (omega arith) e

  -- one more was passed over
  pub skip-more : (o : Option A) (i : ℕ) (xs front new : List A) → is_some o ≡ true → front ≡ drop i xs → IsTaken o front new → new ≡ drop (i + 1) xs
  skip-more None i xs front new some are taken = absurd cc
  skip-more (Some x) i xs front new some are taken = sym (drop-next i xs x new (sym are ∙ taken))

  -- there is none any more
  pub skip-none : (o : Option A) (i n : ℕ) (xs front new : List A) → is_some o ≡ false → i ≤ n → front ≡ drop i xs → IsTaken o front new → new ≡ drop n xs
  skip-none None i n xs front new none low are taken = taken.1 ∙ sym (drop-none i n xs low (sym are ∙ taken.0))
  skip-none (Some x) i n xs front new none low are taken = absurd cc

  -- one more was counted
  pub count-more : (o : Option A) (total i : ℕ) (front new : List A) → is_some o ≡ true → total ≡ i + length front → IsTaken o front new → total ≡ (i + 1) + length new
  count-more None total i front new some are taken = absurd cc
  count-more (Some x) total i front new some are taken =
      let size : length front ≡ suc (length new) = ap length taken in omega arith

  -- all were counted
  pub count-none : (o : Option A) (total i : ℕ) (front new : List A) → is_some o ≡ false → total ≡ i + length front → IsTaken o front new → total ≡ i
  count-none None total i front new none are taken = let size : length front ≡ 0 = ap length taken.0 in omega arith
  count-none (Some x) total i front new none are taken = absurd cc

  -- a count that ends below its limit is of all
  pub count-all : (limit most i : ℕ) (xs : List A) → (limit ≢ 0 → most ≡ limit) → length xs ≡ i → i < most → i ≡ length (limited limit xs)
  count-all zero most i xs some size low = sym size
  count-all (suc n) most i xs some size low =
      let cut = length-take (suc n) xs in
      let is = some (λ e. cc) in
      omega (arith, cut, is)

  -- one that comes to its limit, where there is one
  pub count-end : (limit most i more : ℕ) (xs : List A) → (limit ≡ 0 → most ≡ 2 ^ 64 - 1) → (limit ≢ 0 → most ≡ limit) → length xs ≤ max_id + 1 → length xs ≡ i + more → most ≤ i → i ≤ most → most ≡ length (limited limit xs)
  count-end zero most i more xs all some few size low high = absurd (let is = all refl in omega (arith, is))
  count-end (suc n) most i more xs all some few size low high =
      let cut = length-take (suc n) xs in
      let is = some (λ e. cc) in
      omega (arith, cut, is)

  take-front : (xs ys : List A) → take (length xs) (xs ++ ys) ≡ xs
  take-front [] ys = refl
  take-front (x ∷ xs) ys = ap (λ (l : List A). x ∷ l) (take-front xs ys)

  -- one more was gathered
  pub first-more : (all ids front new : List A) (x : A) → all ≡ ids ++ front → front ≡ x ∷ new → all ≡ (ids ++ x ∷ []) ++ new
  first-more all ids front new x are taken = are ∙ ap (λ (l : List A). ids ++ l) taken ∙ sym (append_assoc ids (x ∷ []) new)

  -- as many as are asked for
  pub first-full : (limit : ℕ) (all ids new : List A) (x : A) → all ≡ (ids ++ x ∷ []) ++ new → length (ids ++ x ∷ []) ≡ limit → ids ++ x ∷ [] ≡ limited limit all
  first-full zero all ids new x are size = absurd (let e = length-append ids (x ∷ []) in omega (arith, e))
  first-full (suc n) all ids new x are size =
      sym (ap (take (suc n)) are ∙ ap (λ (m : ℕ). take m ((ids ++ x ∷ []) ++ new)) (sym size) ∙ take-front (ids ++ x ∷ []) new)

  -- all there are
  pub first-all : (limit : ℕ) (all ids front : List A) → (limit ≢ 0 → length ids < limit) → all ≡ ids ++ front → front ≡ [] → ids ≡ limited limit all
  first-all limit all ids front fewer are none = cut limit fewer where
    whole : all ≡ ids
    whole = are ∙ ap (λ (l : List A). ids ++ l) none ∙ append-nil ids

    cut : (limit : ℕ) → (limit ≢ 0 → length ids < limit) → ids ≡ limited limit all
    cut zero fewer = sym whole
    cut (suc n) fewer =
        let low = fewer (λ e. cc) in
        sym (ap (take (suc n)) whole ∙ take_all (suc n) ids (omega (arith, low)))
