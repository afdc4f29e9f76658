-- The models of a registry with their names, by number and then by name.
use Rattle.std.proofs.Common.{◌≡◌, ◌+◌, ◌<◌, ◌≤◌, ◌++◌, ℕ, zero, suc, List, [], ◌∷◌, map, length, take, get_or, Some, None, refl, sym, ap, subst, ◌∙◌, arith}
use Rattle.std.specs.Prelude.{All, slice_get}
use Rattle.std.specs.List.{AllByRecursion, enumerate_from}
use Rattle.std.proofs.lemmas.List.{length-take, take_all, take_more}
use Rattle.std.proofs.lemmas.List.Elements.{All-from_recursion, All-get_or}
use Rattle.std.proofs.lemmas.List.Sorted.{All-permutation}
use Rattle.std.proofs.lemmas.Option.{get_or_from_slice_get, slice_get_within}
use Rattle.ob_base.specs.Limits.{max_models}
use Rattle.ob_base.specs.declared.id.ModelNo.{ModelNo}
use Rattle.ob_audit.specs.Report.{AreByName, named_models}
use Rattle.ob_schema.specs.Built.{numbered}
use Rattle.ob_schema.specs.Models.{HasModel, IsRegistry, model_at}
use Rattle.ob_schema.specs.declared.info.ModelInfo.{ModelInfo}
use Rattle.ob_tables.proofs.CallerLemmas.{there_is}

-- a model with its number as one with its name
abbrev pub with_name : ℕ × ModelInfo → ModelNo × List ℕ
with_name place = (record { 0 = place.0 }, place.1.name)

named-last : (n : ℕ) (xs : List ModelInfo) (x : ModelInfo) (m : ℕ) → m ≡ n + length xs → map with_name (enumerate_from n (xs ++ x ∷ [])) ≡ map with_name (enumerate_from n xs) ++ with_name (m, x) ∷ []
named-last n [] x m is = ap (λ (k : ℕ). with_name (k, x) ∷ []) (number n m is)
  where
    number : (n m : ℕ) → m ≡ n + 0 → n ≡ m
    number n m is = omega arith
named-last n (y ∷ xs) x m is = ap (λ (l : List (ModelNo × List ℕ)). with_name (n, y) ∷ l) (named-last (n + 1) xs x m (further n m (length xs) is))
  where
    further : (n m k : ℕ) → m ≡ n + suc k → m ≡ n + 1 + k
    further n m k is = omega arith

-- a number with a model
pub named-more : (models : List ModelInfo) (place : ℕ) (info : ModelInfo) → model_at models (record { 0 = place + 1 }) ≡ Some info
    → named_models (take (place + 1) models) ≡ named_models (take place models) ++ (record { 0 = place + 1 }, info.name) ∷ []
named-more models place info is =
    let at : slice_get models place ≡ Some info = ap (numbered models) (let same : suc place ≡ place + 1 = omega arith in same) ∙ is in
    let low = slice_get_within models place info at in
    let size : length (take place models) ≡ place = (let taken = length-take place models in omega (arith, taken)) in
    ap named_models (take_more models place info low ∙ ap (λ (m : ModelInfo). take place models ++ m ∷ []) (get_or_from_slice_get models place info info at))
    ∙ named-last 1 (take place models) info (place + 1) (let taken = length-take place models in omega (arith, taken))

abbrev no_models : List ModelInfo
no_models = []

take-none : (k : ℕ) → take k no_models ≡ no_models
take-none zero = refl
take-none (suc k) = refl

-- a number without one
pub named-pass : (models : List ModelInfo) (place : ℕ) → model_at models (record { 0 = place + 1 }) ≡ None → named_models (take (place + 1) models) ≡ named_models (take place models)
named-pass models place is =
    let at : slice_get models place ≡ None = ap (numbered models) (let same : suc place ≡ place + 1 = omega arith in same) ∙ is in
    ap named_models (past models place at)
  where
    past : (xs : List ModelInfo) (i : ℕ) → slice_get xs i ≡ None → take (i + 1) xs ≡ take i xs
    past [] i at = take-none (i + 1) ∙ sym (take-none i)
    past (x ∷ xs) zero at = absurd cc
    past (x ∷ xs) (suc i) at = ap (λ (k : ℕ). take k (x ∷ xs)) (let same : suc i + 1 ≡ suc (i + 1) = omega arith in same) ∙ ap (λ (l : List ModelInfo). x ∷ l) (past xs i at)

-- all numbers that there may be
pub named-all : (models : List ModelInfo) → IsRegistry models → (place : ℕ) → max_models ≤ place → named_models (take place models) ≡ named_models models
named-all models registry place far = ap named_models (take_all place models (long (length models) registry.few))
  where
    long : (n : ℕ) → n ≤ max_models → n ≤ place
    long n few = omega arith

-- each of them is a model
module _ (whole : List ModelInfo) where
  each-there : (n : ℕ) (models : List ModelInfo) → ((i : ℕ) → numbered whole (n + i) ≡ slice_get models i) → AllByRecursion (λ one. HasModel whole one.0) (map with_name (enumerate_from n models))
  each-there n [] at = tt
  each-there n (m ∷ models) at = (
    there_is (numbered whole n) m (ap (numbered whole) (let same : n ≡ n + zero = omega arith in same) ∙ at zero),
    each-there (n + 1) models (λ i. ap (numbered whole) (let same : n + 1 + i ≡ n + suc i = omega arith in same) ∙ at (suc i)),
  )

  named-there : All (λ one. HasModel whole one.0) (named_models whole)
  named-there = All-from_recursion (λ one. HasModel whole one.0) (named_models whole) (each-there 1 whole (λ i. ap (numbered whole) (let same : 1 + i ≡ suc i = omega arith in same)))

  pub sorted-there : (named : List (ModelNo × List ℕ)) → AreByName whole named → (i : ℕ) (one : ModelNo × List ℕ) → i < length named → one ≡ get_or named i one → HasModel whole one.0
  sorted-there named by_name i one low at =
      subst (λ (o : ModelNo × List ℕ). HasModel whole o.0) (sym at) (All-get_or (λ o. HasModel whole o.0) named i one low (All-permutation (λ o. HasModel whole o.0) (named_models whole) named by_name.all named-there))
