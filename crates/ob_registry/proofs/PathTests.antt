-- What tests of all paths, and of one of them, answer.
use Rattle.std.proofs.Common.{◌≡◌, ℕ, zero, suc, ◌<◌, ◌-◌, ◌+◌, Bool, true, false, List, [], ◌∷◌}
use Rattle.std.proofs.Common.{◌++◌, length, get_or, take, drop, map, refl, sym, ap, subst, ◌∙◌, arith}
use Rattle.std.specs.Bool.{MatchBool}
use Rattle.std.specs.Prelude.{All, Any, IsTrue, ◌↔◌, ◌==◌}
use Rattle.std.specs.List.{AllWithin, HoldsAt}
use Rattle.std.proofs.lemmas.List.{take_at, take-append-drop, drop_more, drop_all, length_push}
use Rattle.std.proofs.lemmas.List.Elements.{All-cons, All-head, All-nil, All-tail, All-from_all_within}
use Rattle.std.proofs.lemmas.Iterator.Search.{true_from_All, true_from_Any}
use Rattle.ob_schema.specs.declared.info.Step.{Step}
use Rattle.ob_registry.specs.Graphs.{GoesBy}

-- what `all` answers
pub all-is : {X : Type 0} (P : X → Type 0) (xs : List X) (r : Bool) → MatchBool r (AllWithin P xs 0 (length xs)) ((k : ℕ) × (k < length xs) × HoldsAt (λ x. P x → ⊥) xs k) → IsTrue r ↔ All P xs
all-is {X} P xs r m = (to r m, λ all. true_from_All P (λ x. P x → ⊥) r xs (λ x p no. no p) m all)
  where
    to : (r : Bool) → MatchBool r (AllWithin P xs 0 (length xs)) ((k : ℕ) × (k < length xs) × HoldsAt (λ x. P x → ⊥) xs k) → IsTrue r → All P xs
    to true m e = All-from_all_within P xs m
    to false m e = absurd (let e : ◌≡◌ {A = Bool} false true = e in cc)

-- an element of a list at a place
element : {X : Type 0} (xs : List X) (k : ℕ) → k < length xs → (x : X) × (get_or xs k x ≡ x)
element [] k lt = absurd (omega arith)
element (x ∷ xs) zero lt = (x, refl)
element (x ∷ xs) (suc k) lt = element xs k (omega arith)

-- what `any` answers
pub any-is : {X : Type 0} (P : X → Type 0) (xs : List X) (r : Bool) → MatchBool r ((k : ℕ) × (k < length xs) × HoldsAt P xs k) (AllWithin (λ x. P x → ⊥) xs 0 (length xs)) → IsTrue r ↔ Any P xs
any-is {X} P xs r m = (to r m, λ (k, x, lt, is, p). true_from_Any P (λ x. P x → ⊥) r xs (λ x p no. no p) m x (k, lt, is) p)
  where
    to : (r : Bool) → MatchBool r ((k : ℕ) × (k < length xs) × HoldsAt P xs k) (AllWithin (λ x. P x → ⊥) xs 0 (length xs)) → IsTrue r → Any P xs
    to true (k, lt, holds) e = let x = element xs k lt in (k, x.0, lt, x.1, subst P x.1 (holds x.0))
    to false m e = absurd (let e : ◌≡◌ {A = Bool} false true = e in cc)

pub All-unmap : {X Y : Type 0} (P : Y → Type 0) (f : X → Y) (xs : List X) → All P (map f xs) → All (λ x. P (f x)) xs
All-unmap P f [] all = All-nil (λ x. P (f x))
All-unmap P f (x ∷ xs) all = All-cons (λ x. P (f x)) x xs (All-head P (f x) (map f xs) all) (All-unmap P f xs (All-tail P (f x) (map f xs) all))

-- a list is its front and its last element
last-of : {X : Type 0} (x : X) (xs : List X) → (last : X) × (x ∷ xs ≡ take (length (x ∷ xs) - 1) (x ∷ xs) ++ last ∷ [])
last-of {X} x xs =
    let all : List X = x ∷ xs in
    let low : length all - 1 < length all = omega arith in
    let end : drop (length all - 1 + 1) all ≡ [] = drop_all (length all - 1 + 1) all (omega arith) in (
      get_or all (length all - 1) x,
      sym (take-append-drop (length all - 1) all)
          ∙ ap (λ (l : List X). take (length all - 1) all ++ l) (drop_more all (length all - 1) x low ∙ ap (λ (l : List X). get_or all (length all - 1) x ∷ l) end),
    )

module _ (Through : Step → Type 0) where
  -- all steps but the last are such ones
  pub goes-by : (steps : List Step) → 0 < length steps → (length (take (length steps - 1) steps) == 0) ≡ false → All Through (take (length steps - 1) steps) → GoesBy Through steps
  goes-by [] low some all = absurd (omega arith)
  goes-by (x ∷ xs) low some all =
      let last = last-of x xs in
      (take (length (x ∷ xs) - 1) (x ∷ xs), last.0, last.1, (λ none. let zero : (length (take (length (x ∷ xs) - 1) (x ∷ xs)) == 0) ≡ true = ap (λ (l : List Step). length l == 0) none in cc), all)

  pub goes-by-front : (steps : List Step) → GoesBy Through steps → All Through (take (length steps - 1) steps)
  goes-by-front steps (front, last, is, some, all) =
      let count : length front ≡ length steps - 1 = omega (arith, ap length is, length_push front last) in
      let same : take (length steps - 1) steps ≡ front = ap (λ (l : List Step). take (length steps - 1) l) is ∙ take_at front (last ∷ []) (length steps - 1) count in
      subst (λ (l : List Step). All Through l) (sym same) all
