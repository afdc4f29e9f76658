-- What a list gains: by one push, in turn, and over a loop.
use Rattle.std.proofs.Common.{◌≡◌, ◌⊎◌, ◌↔◌, ◌<◌, ◌+◌, ℕ, inl, inr, List, [], ◌∷◌, ◌++◌, get_or, length, take, sym, subst, arith}
use Rattle.std.specs.Prelude.{Contains}
use Rattle.std.proofs.lemmas.Bool.{cases_lt}
use Rattle.std.proofs.lemmas.List.{take_more}
use Rattle.std.proofs.lemmas.List.Elements.{Contains-append_left, Contains-push, Contains-push_cases}
use Rattle.ob_schema.proofs.CallerLemmas.{contains-none}
use Rattle.ob_change.specs.EditedSteps.{Gains}

-- it gains nothing
pub gains_none : {X : Type 0} (P : X → Type 0) (xs : List X) → ((x : X) → P x → ⊥) → Gains P xs xs
gains_none P xs none x = (λ had. inl had, λ either. elim either [ inl had ↦ had | inr new ↦ absurd (none x new) ])

-- it gains what is pushed
pub gains_one : {X : Type 0} (xs : List X) (one : X) → Gains (λ x. x ≡ one) xs (xs ++ one ∷ [])
gains_one {X} xs one x = (
  λ has. elim (Contains-push_cases xs one x has) [ inl had ↦ inl had | inr is ↦ inr (sym is) ],
  λ either. elim either [
    | inl had ↦ Contains-append_left xs (one ∷ []) x had
    | inr is ↦ subst (λ (y : X). Contains (xs ++ one ∷ []) y) (sym is) (Contains-push xs one)
  ],
)

-- it is what it is with one more
pub gains_pushed : {X : Type 0} (xs ys : List X) (one : X) → ys ≡ xs ++ one ∷ [] → Gains (λ x. x ≡ one) xs ys
gains_pushed {X} xs ys one is = subst (λ (l : List X). Gains (λ x. x ≡ one) xs l) (sym is) (gains_one xs one)

-- it gains what is told otherwise
pub gains_as : {X : Type 0} (P Q : X → Type 0) (xs ys : List X) → ((x : X) → P x → Q x) → ((x : X) → Q x → P x) → Gains P xs ys → Gains Q xs ys
gains_as P Q xs ys to from gains x = (
  λ has. elim ((gains x).0 has) [ inl had ↦ inl had | inr new ↦ inr (to x new) ],
  λ either. elim either [ inl had ↦ (gains x).1 (inl had) | inr new ↦ (gains x).1 (inr (from x new)) ],
)

-- it gains these and then those
pub gains_both : {X : Type 0} (P Q : X → Type 0) (xs ys zs : List X) → Gains P xs ys → Gains Q ys zs → Gains (λ x. P x ⊎ Q x) xs zs
gains_both P Q xs ys zs first second x = (
  λ has. elim ((second x).0 has) [
    | inl had ↦ elim ((first x).0 had) [ inl old ↦ inl old | inr new ↦ inr (inl new) ]
    | inr new ↦ inr (inr new)
  ],
  λ either. elim either [
    | inl had ↦ (second x).1 (inl ((first x).1 (inl had)))
    | inr which ↦ elim which [ inl new ↦ (second x).1 (inl ((first x).1 (inr new))) | inr new ↦ (second x).1 (inr new) ]
  ],
)

-- a list that had nothing has what it gains
pub gains_all : {X : Type 0} (P : X → Type 0) (xs ys : List X) → xs ≡ [] → Gains P xs ys → (x : X) → Contains ys x ↔ P x
gains_all {X} P xs ys empty gains x = (
  λ has. elim ((gains x).0 has) [ inl had ↦ absurd (contains-none x (subst (λ (l : List X). Contains l x) empty had)) | inr new ↦ new ],
  λ new. (gains x).1 (inr new),
)

-- one of the first of a list is one before it, or the last of them
pub taken_cases : {X : Type 0} (xs : List X) (i : ℕ) (d x : X) → i < length xs → Contains (take (i + 1) xs) x → Contains (take i xs) x ⊎ (get_or xs i d ≡ x)
taken_cases {X} xs i d x within has = Contains-push_cases (take i xs) (get_or xs i d) x (subst (λ (l : List X). Contains l x) (take_more xs i d within) has)

pub taken_before : {X : Type 0} (xs : List X) (i : ℕ) (d x : X) → i < length xs → Contains (take i xs) x → Contains (take (i + 1) xs) x
taken_before {X} xs i d x within has = subst (λ (l : List X). Contains l x) (sym (take_more xs i d within)) (Contains-append_left (take i xs) (get_or xs i d ∷ []) x has)

pub taken_last : {X : Type 0} (xs : List X) (i : ℕ) (d : X) → i < length xs → Contains (take (i + 1) xs) (get_or xs i d)
taken_last {X} xs i d within = subst (λ (l : List X). Contains l (get_or xs i d)) (sym (take_more xs i d within)) (Contains-push (take i xs) (get_or xs i d))

module _ {X Y : Type 0} (P : X → Y → Type 0) where
  -- by one of these
  abbrev pub BySome : List X → Y → Type 0
  BySome xs y = (x : X) × Contains xs x × P x y

  -- what it gains by the first of a list, and then by the next
  pub gains_next : (xs : List X) (i : ℕ) (d : X) (from old new : List Y) → i < length xs → Gains (BySome (take i xs)) from old → Gains (P (get_or xs i d)) old new → Gains (BySome (take (i + 1) xs)) from new
  gains_next xs i d from old new within first next =
      gains_as (λ y. BySome (take i xs) y ⊎ P (get_or xs i d) y) (BySome (take (i + 1) xs)) from new to back
      (gains_both (BySome (take i xs)) (P (get_or xs i d)) from old new first next)
    where
      to : (y : Y) → BySome (take i xs) y ⊎ P (get_or xs i d) y → BySome (take (i + 1) xs) y
      to y (inl (x, among, by)) = (x, taken_before xs i d x within among, by)
      to y (inr by) = (get_or xs i d, taken_last xs i d within, by)

      back : (y : Y) → BySome (take (i + 1) xs) y → BySome (take i xs) y ⊎ P (get_or xs i d) y
      back y (x, among, by) = elim (taken_cases xs i d x within among) [
        | inl before ↦ inl (x, before, by)
        | inr is ↦ inr (subst (λ (z : X). P z y) (sym is) by)
      ]

module _ {Y : Type 0} (P : ℕ → Y → Type 0) where
  -- by one of the numbers below this
  abbrev pub Below : ℕ → Y → Type 0
  Below n y = (k : ℕ) × (k < n) × P k y

  pub gains_more : (i : ℕ) (from old new : List Y) → Gains (Below i) from old → Gains (P i) old new → Gains (Below (i + 1)) from new
  gains_more i from old new first next =
      gains_as (λ y. Below i y ⊎ P i y) (Below (i + 1)) from new to back (gains_both (Below i) (P i) from old new first next)
    where
      to : (y : Y) → Below i y ⊎ P i y → Below (i + 1) y
      to y (inl (k, less, by)) = (k, omega (arith, less), by)
      to y (inr by) = (i, omega arith, by)

      back : (y : Y) → Below (i + 1) y → Below i y ⊎ P i y
      back y (k, less, by) = elim (cases_lt k i) [
        | inl low ↦ inl (k, low, by)
        | inr high ↦ (let is : k ≡ i = omega (arith, less, high) in inr (subst (λ (n : ℕ). P n y) is by))
      ]
