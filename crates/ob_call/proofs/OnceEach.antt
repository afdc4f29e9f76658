-- Lists with each number once.
use Rattle.std.proofs.Common.{◌≡◌, inl, inr, ℕ, ◌==◌, ◌||◌, Bool, true, false, not, cond, List, [], ◌∷◌, ◌++◌, refl, ap, ◌∙◌, arith}
use Rattle.std.specs.Prelude.{filter, All}
use Rattle.std.specs.List.{list_any}
use Rattle.std.proofs.lemmas.Bool.{cases_Bool}
use Rattle.std.proofs.lemmas.List.{append-nil}
use Rattle.std.proofs.lemmas.Bool.Decides.{nat_tests}
use Rattle.std.proofs.lemmas.List.Elements.{All-cons, All-head, All-tail, All-filter, filter-append}
use Rattle.ob_call.specs.Ids.{once}

-- whether the number is among them
abbrev pub has : ℕ → List ℕ → Bool
has q ids = list_any (λ n. n == q) ids

-- two tests one after the other, in either order
either_way : (b c d : Bool) → (b || cond c true d) ≡ cond c true (b || d)
either_way true true d = refl
either_way true false d = refl
either_way false c d = refl

-- a test at the end of a list
at_end : (b : Bool) → (b || false) ≡ cond b true false
at_end true = refl
at_end false = refl

-- a number is among them with one more at the end if it is that one, or was among them
pub has_push : (ids : List ℕ) (n q : ℕ) → has q (ids ++ n ∷ []) ≡ cond (n == q) true (has q ids)
has_push [] n q = at_end (n == q)
has_push (m ∷ ids) n q = ap (λ (b : Bool). m == q || b) (has_push ids n q) ∙ either_way (m == q) (n == q) (has q ids)

-- one of two tests passes, and not the second
or_first : (b c : Bool) → (b || c) ≡ true → c ≡ false → b ≡ true
or_first true c e f = refl
or_first false c e f = absurd cc

-- all but this number
abbrev others : ℕ → List ℕ → List ℕ
others id ids = filter (λ other. not (other == id)) ids

-- the number itself is left out
others_same : (id n : ℕ) → (id == n) ≡ true → others id (n ∷ []) ≡ []
others_same id n e = let back : (n == id) ≡ true = grind (arith, nat_tests) in rw back refl

-- another number stays
others_other : (id n : ℕ) → (id == n) ≡ false → others id (n ∷ []) ≡ n ∷ []
others_other id n e = let back : (n == id) ≡ false = grind (arith, nat_tests) in rw back refl

-- a new number goes last
pub once_new : (ids : List ℕ) (n : ℕ) → has n ids ≡ false → once (ids ++ n ∷ []) ≡ once ids ++ n ∷ []
once_new [] n new = refl
once_new (id ∷ ids) n new =
    elim (cases_Bool (id == n)) [
      | inl same ↦ absurd (let e : has n (id ∷ ids) ≡ true = rw same refl in cc)
      | inr other ↦ (let rest : has n ids ≡ false = rw other at new in
          ap (λ (xs : List ℕ). id ∷ others id xs) (once_new ids n rest)
          ∙ ap (λ (xs : List ℕ). id ∷ xs) (filter-append (λ x. not (x == id)) (once ids) (n ∷ []) ∙ ap (λ (xs : List ℕ). others id (once ids) ++ xs) (others_other id n other)))
    ]

-- one that is there already changes nothing
pub once_old : (ids : List ℕ) (n : ℕ) → has n ids ≡ true → once (ids ++ n ∷ []) ≡ once ids
once_old [] n old = absurd cc
once_old (id ∷ ids) n old =
    elim (cases_Bool (has n ids)) [
      | inl later ↦ ap (λ (xs : List ℕ). id ∷ others id xs) (once_old ids n later)
      | inr new ↦ (let same : (id == n) ≡ true = or_first (id == n) (has n ids) old new in
          ap (λ (xs : List ℕ). id ∷ others id xs) (once_new ids n new)
          ∙ ap (λ (xs : List ℕ). id ∷ xs) (filter-append (λ x. not (x == id)) (once ids) (n ∷ []) ∙ ap (λ (xs : List ℕ). others id (once ids) ++ xs) (others_same id n same) ∙ append-nil (others id (once ids))))
    ]

-- what holds of each number holds of each once
pub All-once : (P : ℕ → Type 0) (ids : List ℕ) → All P ids → All P (once ids)
All-once P [] h = h
All-once P (id ∷ ids) h =
    All-cons P id (others id (once ids)) (All-head P id ids h) (All-filter (λ x. not (x == id)) P (once ids) (All-once P ids (All-tail P id ids h)))
