-- The first module that depends on itself.
use Rattle.std.proofs.Common.{◌≡◌, ℕ, zero, suc, ◌<◌, List, [], ◌∷◌, ◌++◌, length, take, drop, Option, None, Some, refl, sym, ap, subst, arith}
use Rattle.std.specs.Prelude.{All, slice_get}
use Rattle.std.proofs.lemmas.List.Elements.{All-cons, All-nil}
use Rattle.std.proofs.lemmas.Option.{same_Some, slice_get_within}
use Rattle.ob_load.specs.Dependencies.{IsCyclic, IsFirstCyclic}
use Rattle.ob_module.specs.Modules.{Module}
use Rattle.ob_module.proofs.CallerLemmas.{has-from, number-of}
use Rattle.ob_load.proofs.Orders.{source-of}

-- a list before and behind one of its elements
split-at : {X : Type 0} (xs : List X) (n : ℕ) (x : X) → slice_get xs n ≡ Some x → xs ≡ take n xs ++ x ∷ drop (suc n) xs
split-at {X} [] n x at = absurd (let e : ◌≡◌ {A = Option X} None (Some x) = at in cc)
split-at (y ∷ xs) zero x at = ap (λ z. z ∷ xs) (same_Some y x at)
split-at (y ∷ xs) (suc n) x at = ap (λ l. y ∷ l) (split-at xs n x at)

all-before : {X : Type 0} (P : X → Type 0) (xs : List X) (n : ℕ) → ((k : ℕ) (x : X) → k < n → slice_get xs k ≡ Some x → P x) → All P (take n xs)
all-before P [] zero each = All-nil P
all-before P [] (suc n) each = All-nil P
all-before P (y ∷ xs) zero each = All-nil P
all-before P (y ∷ xs) (suc n) each = All-cons P y (take n xs) (each 0 y (omega arith) refl) (all-before P xs n (λ k x low at. each (suc k) x (omega (arith, low)) at))

module _ (modules : List Module) where
  -- none of the first so many depends on itself
  abbrev pub NoneBefore : ℕ → Type 0
  NoneBefore n = (k : ℕ) (m : Module) → k < n → slice_get modules k ≡ Some m → IsCyclic modules m.name → ⊥

  pub first-cyclic : (n : ℕ) (m : Module) → NoneBefore n → slice_get modules n ≡ Some m → IsCyclic modules m.name → IsFirstCyclic modules m.name
  first-cyclic n m none at cyclic = record {
    before = take n modules;
    first = m;
    after = drop (suc n) modules;
    all = split-at modules n m at;
    named = refl;
    none_before = all-before (λ (o : Module). IsCyclic modules o.name → ⊥) modules n none;
    there = cyclic;
  }

  pub none-cyclic : (n : ℕ) → n ≡ length modules → NoneBefore n → (name : List ℕ) → IsCyclic modules name → ⊥
  none-cyclic n all none name (k, reach) =
      let own = has-from modules name (source-of modules k name name reach) in
      let number = number-of modules own.0 own.1 in
      none number.0 own.0 (let low = slice_get_within modules number.0 own.0 number.1 in omega (arith, low, all)) number.1 (subst (λ (l : List ℕ). IsCyclic modules l) (sym own.2) (k, reach))
