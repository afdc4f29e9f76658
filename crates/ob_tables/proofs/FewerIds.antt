-- Fewer ids are left where one is taken away, and which ids stand below a number.
use Rattle.std.proofs.Common.{◌≡◌, inl, inr, ℕ, zero, suc, ◌<◌, ◌≤◌, Bool, true, false, cond, List, [], ◌∷◌, length, filter, sym, ap, ◌∙◌, arith}
use Rattle.std.proofs.lemmas.Bool.{cases_lt}
use Rattle.ob_base.specs.declared.id.RecId.{RecId}
use Rattle.ob_tables.proofs.NamedBack.{Stands}

-- a test keeps no more than there are
length-filter : {X : Type 0} (test : X → Bool) (xs : List X) → length (filter test xs) ≤ length xs
length-filter test [] = omega arith
length-filter {X = X} test (x ∷ xs) = by (test x) (length-filter test xs)
  where
    by : (b : Bool) → length (filter test xs) ≤ length xs → length (cond b (x ∷ filter test xs) (filter test xs)) ≤ suc (length xs)
    by true rest = omega arith
    by false rest = omega arith

-- one that fails is taken away
pub fewer : {X : Type 0} (test : X → Bool) (y : X) (xs : List X) → Stands y xs → test y ≡ false → length (filter test xs) < length xs
fewer test y [] among fails = absurd among
fewer {X = X} test y (x ∷ xs) (inl is) fails = let rest = length-filter test xs in by (test x) (ap test (sym is) ∙ fails) rest
  where
    by : (b : Bool) → b ≡ false → length (filter test xs) ≤ length xs → length (cond b (x ∷ filter test xs) (filter test xs)) < suc (length xs)
    by true passes rest = absurd cc
    by false fails rest = omega arith
fewer {X = X} test y (x ∷ xs) (inr later) fails = by (test x) (fewer test y xs later fails)
  where
    by : (b : Bool) → length (filter test xs) < length xs → length (cond b (x ∷ filter test xs) (filter test xs)) < suc (length xs)
    by true rest = omega arith
    by false rest = omega arith

-- one that passes stays
pub stays : {X : Type 0} (test : X → Bool) (y : X) (xs : List X) → Stands y xs → test y ≡ true → Stands y (filter test xs)
stays test y [] among passes = among
stays {X = X} test y (x ∷ xs) (inl is) passes = by (test x) (ap test (sym is) ∙ passes)
  where
    by : (b : Bool) → b ≡ true → Stands y (cond b (x ∷ filter test xs) (filter test xs))
    by true passes = inl is
    by false fails = absurd cc
stays {X = X} test y (x ∷ xs) (inr later) passes = by (test x) (stays test y xs later passes)
  where
    by : (b : Bool) → Stands y (filter test xs) → Stands y (cond b (x ∷ filter test xs) (filter test xs))
    by true rest = inr rest
    by false rest = rest

-- the ids below a number
abbrev pub ids_below : ℕ → List RecId
ids_below zero = []
ids_below (suc n) = record { 0 = n } ∷ ids_below n

-- each id below the number is one of them
pub below-stands : (n : ℕ) (id : RecId) → id.0 < n → Stands id (ids_below n)
below-stands zero id below = absurd (omega arith)
below-stands (suc n) id below = elim (cases_lt id.0 n) [
  | inl less ↦ inr (below-stands n id less)
  | inr high ↦ (let same : id.0 ≡ n = omega arith in inl (λ i. record { 0 = same i }))
]
