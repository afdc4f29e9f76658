-- Steps among places below a number: so many as there are places lead nowhere or onto a circle, and to each place on one.
use Rattle.std.proofs.Common.{◌≡◌, ◌<◌, ◌≤◌, ◌+◌, ◌-◌, ◌⊎◌, ◌==◌, ℕ, zero, suc, Bool, true, false, not, List, [], ◌∷◌, length, filter, Option, Some, None, option_and_then}
use Rattle.std.proofs.Common.{refl, sym, ap, subst, ◌∙◌, inl, inr, ⊎_elim, arith, eqb-true, eq-eqb}
use Rattle.std.proofs.lemmas.Bool.{cases_lt}
use Rattle.std.proofs.lemmas.Option.{none-some, same_Some}
use Rattle.ob_tables.specs.Trees.{steps_in}
use Rattle.ob_tables.proofs.FewerIds.{fewer, stays}
use Rattle.ob_tables.proofs.NamedBack.{Stands}
use Rattle.ob_tables.proofs.Stepping.{some-of, steps-add, steps-one}

module _ (f : ℕ → Option ℕ) where
  -- a place to which so many steps lead from it, one at least
  abbrev pub Circles : ℕ → Type 0
  Circles p = (c : ℕ) × (steps_in f (suc c) p ≡ Some p)

  -- steps after steps that lead to a place
  pub steps-from : (m n p q : ℕ) → steps_in f m p ≡ Some q → steps_in f (m + n) p ≡ steps_in f n q
  steps-from m n p q e = steps-add f m n p ∙ ap (option_and_then (steps_in f n)) e

  -- the order of steps doesn't matter
  swapped : (m n p : ℕ) → steps_in f (m + n) p ≡ steps_in f (n + m) p
  swapped m n p = ap (λ k. steps_in f k p) (order m n)
    where
      order : (m n : ℕ) → m + n ≡ n + m
      order m n = omega arith

  -- what a place on a circle leads to is on one
  pub circles-on : (m p q : ℕ) → Circles p → steps_in f m p ≡ Some q → Circles q
  circles-on m p q circle e = (circle.0, sym (steps-from m (suc circle.0) p q e) ∙ swapped m (suc circle.0) p ∙ steps-from (suc circle.0) m p p circle.1 ∙ e)

  -- a place on a circle leads on for ever
  pub circles-endless : (m p : ℕ) → Circles p → (q : ℕ) × (steps_in f m p ≡ Some q)
  circles-endless zero p circle = (p, refl)
  circles-endless (suc m) p circle =
      let next = some-of (f p) (steps_in f circle.0) p circle.1 in
      let rest = circles-endless m next.0 (circles-on 1 p next.0 circle (steps-one f p ∙ next.1)) in
      (rest.0, ap (option_and_then (steps_in f m)) next.1 ∙ rest.1)

  -- and so many steps lead to it from some place
  pub circles-reached : (m p : ℕ) → Circles p → (q : ℕ) × (steps_in f m q ≡ Some p)
  circles-reached zero p circle = (p, refl)
  circles-reached (suc m) p circle =
      let before = circles-endless circle.0 p circle in
      let step : f before.0 ≡ Some p = sym (steps-one f before.0) ∙ sym (steps-from circle.0 1 p before.0 before.1) ∙ ap (λ k. steps_in f k p) (one circle.0) ∙ circle.1 in
      let from = circles-reached m before.0 (circles-on circle.0 p before.0 circle before.1) in
      (from.0, ap (λ k. steps_in f k from.0) (sym (one m)) ∙ steps-from m 1 from.0 before.0 from.1 ∙ steps-one f before.0 ∙ step)
    where
      one : (k : ℕ) → k + 1 ≡ suc k
      one k = omega arith

  -- a place to which a walk comes twice
  abbrev pub Again : ℕ → ℕ → Type 0
  Again k p = (x i c : ℕ) × (i + suc c ≤ k) × (steps_in f i p ≡ Some x) × (steps_in f (suc c) x ≡ Some x)

  decide : (o : Option ℕ) (p : ℕ) → (o ≡ Some p) ⊎ (o ≡ Some p → ⊥)
  decide None p = inr (λ e. none-some p e)
  decide (Some q) p = by (q == p) refl
    where
      by : (b : Bool) → (q == p) ≡ b → (Some q ≡ Some p) ⊎ (Some q ≡ Some p → ⊥)
      by true same = inl (ap Some (eqb-true q p same))
      by false other = inr (λ e. let wrong : false ≡ true = sym other ∙ eq-eqb q p (same_Some q p e) in cc)

  -- a walk comes back to where it began, or doesn't
  back_or : (k p : ℕ) → ((c : ℕ) × (c < k) × (steps_in f (suc c) p ≡ Some p)) ⊎ ((c : ℕ) → c < k → steps_in f (suc c) p ≡ Some p → ⊥)
  back_or zero p = inr (λ c low e. absurd (omega arith))
  back_or (suc k) p = ⊎_elim
      (λ found. inl (found.0, wider found.0 k found.1, found.2))
      (λ none. ⊎_elim (λ last. inl (k, omega arith, last)) (λ no_last. inr (λ c low e. later c low e none no_last)) (decide (steps_in f (suc k) p) p))
      (back_or k p)
    where
      wider : (c k : ℕ) → c < k → c < suc k
      wider c k low = omega arith

      end : (c k : ℕ) → c < suc k → k ≤ c → c ≡ k
      end c k low above = omega arith

      later : (c : ℕ) → c < suc k → steps_in f (suc c) p ≡ Some p → ((c : ℕ) → c < k → steps_in f (suc c) p ≡ Some p → ⊥) → (steps_in f (suc k) p ≡ Some p → ⊥) → ⊥
      later c low e none no_last = ⊎_elim (λ less. none c less e) (λ above. no_last (subst (λ n. steps_in f (suc n) p ≡ Some p) (end c k low above) e)) (cases_lt c k)

  test : ℕ → ℕ → Bool
  test p x = not (x == p)

  -- a walk among as many places as it has steps comes somewhere twice
  pub comes-twice : (k : ℕ) (left : List ℕ) (p q : ℕ) → length left ≤ k → steps_in f k p ≡ Some q → ((i x : ℕ) → i ≤ k → steps_in f i p ≡ Some x → Stands x left) → Again k p
  unfolding test
  comes-twice zero left p q few e among = absurd (empty left few (among 0 p (omega arith) refl))
    where
      empty : (left : List ℕ) → length left ≤ 0 → Stands p left → ⊥
      empty [] few among = among
      empty (x ∷ left) few among = omega arith
  comes-twice (suc k) left p q few e among = ⊎_elim
      (λ found. let low = found.1 in (p, 0, found.0, omega arith, refl, found.2))
      (λ none.
      let next = some-of (f p) (steps_in f k) q e in
      let onward : (i : ℕ) → steps_in f (suc i) p ≡ steps_in f i next.0 = λ i. ap (option_and_then (steps_in f i)) next.1 in
      let shorter = fewer (λ x. not (x == p)) p left (among 0 p (omega arith) refl) (ap not (eq-eqb p p refl)) in
      let rest = comes-twice k (filter (λ x. not (x == p)) left) next.0 q (omega arith) (sym (onward k) ∙ e)
      (λ i x low at. stays (λ x. not (x == p)) x left (among (suc i) x (omega arith) (onward i ∙ at)) (other x (λ same. none i (omega arith) (onward i ∙ at ∙ ap Some same)))) in
      let low = rest.3 in
      (rest.0, suc rest.1, rest.2, omega arith, onward rest.1 ∙ rest.4, rest.5))
      (back_or (suc k) p)
    where
      other : (x : ℕ) → (x ≡ p → ⊥) → not (x == p) ≡ true
      other x differs = by (x == p) refl
        where
          by : (b : Bool) → (x == p) ≡ b → not b ≡ true
          by true same = absurd (differs (eqb-true x p same))
          by false no_eq = refl

  -- so a long walk ends on a circle
  pub long-circles : (k p q : ℕ) → steps_in f k p ≡ Some q → Again k p → Circles q
  long-circles k p q e again =
      let low = again.3 in
      let rest : again.1 + (k - again.1) ≡ k = omega arith in
      circles-on (k - again.1) again.0 q (again.2, again.5) (sym (steps-from again.1 (k - again.1) p again.0 again.4) ∙ ap (λ n. steps_in f n p) rest ∙ e)

  -- a walk that ends leads nowhere after as many steps
  pub ends-all : (k d p q : ℕ) → steps_in f d p ≡ None → steps_in f k p ≡ Some q → Circles q → ⊥
  ends-all k d p q none e circle = ⊎_elim
      (λ less.
      let rest : d + (k - d) ≡ k = omega arith in
      none-some q (sym (ap (option_and_then (steps_in f (k - d))) none) ∙ sym (steps-add f d (k - d) p) ∙ ap (λ n. steps_in f n p) rest ∙ e))
      (λ above.
      let rest : k + (d - k) ≡ d = omega arith in
      let on = circles-endless (d - k) q circle in
      none-some on.0 (sym none ∙ sym (ap (λ n. steps_in f n p) rest) ∙ steps-from k (d - k) p q e ∙ on.1))
      (cases_lt d k)
