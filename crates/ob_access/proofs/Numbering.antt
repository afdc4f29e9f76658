-- One model more of a list.
use Rattle.std.proofs.Common.{◌≡◌, ◌≤◌, ◌+◌, ◌-◌, ◌++◌, ℕ, zero, suc, List, [], ◌∷◌, Some, None, length, map, take, refl, ap, sym, ◌∙◌, arith}
use Rattle.std.specs.Prelude.{slice_get}
use Rattle.std.proofs.lemmas.List.{take_all}
use Rattle.ob_schema.specs.Built.{numbered}

module _ {A B : Type 0} (f : A → B) where
  take_next : (xs : List A) (k : ℕ) (x : A) → slice_get xs k ≡ Some x → take (suc k) xs ≡ take k xs ++ x ∷ []
  take_next [] k x is = cc
  take_next (y ∷ xs) zero x is = let e : y ≡ x = cc in ap (λ (z : A). z ∷ []) e
  take_next (y ∷ xs) (suc k) x is = ap (λ (l : List A). y ∷ l) (take_next xs k x is)

  map-push : (xs : List A) (x : A) → map f (xs ++ x ∷ []) ≡ map f xs ++ f x ∷ []
  map-push [] x = refl
  map-push (y ∷ xs) x = ap (λ (l : List B). f y ∷ l) (map-push xs x)

  -- what is made of those so far, and of the next
  pub numbered_more : (xs : List A) (n : ℕ) (x : A) (old new : List B) (y : B) → 1 ≤ n → numbered xs n ≡ Some x → old ≡ map f (take (n - 1) xs) → new ≡ old ++ y ∷ [] → y ≡ f x → new ≡ map f (take (n + 1 - 1) xs)
  numbered_more xs zero x old new y low is was now made = absurd (omega arith)
  numbered_more xs (suc k) x old new y low is was now made =
      let here : suc k - 1 ≡ k = omega arith in
      let there : suc k + 1 - 1 ≡ suc k = omega arith in
      now ∙ ap (λ (z : B). old ++ z ∷ []) made ∙ ap (λ (l : List B). l ++ f x ∷ []) (was ∙ ap (λ (i : ℕ). map f (take i xs)) here)
      ∙ sym (map-push (take k xs) x) ∙ ap (map f) (sym (take_next xs k x is)) ∙ ap (λ (i : ℕ). map f (take i xs)) (sym there)

past : {A : Type 0} (xs : List A) (k : ℕ) → slice_get xs k ≡ None → length xs ≤ k
past [] k is = omega arith
past (x ∷ xs) zero is = absurd cc
past (x ∷ xs) (suc k) is = let le = past xs k is in omega arith

-- behind the last there is none
pub numbered_none : {A : Type 0} (xs : List A) (n : ℕ) → 1 ≤ n → numbered xs n ≡ None → take (n - 1) xs ≡ xs
numbered_none xs zero low is = absurd (omega arith)
numbered_none xs (suc k) low is = let le = past xs k is in take_all (suc k - 1) xs (omega arith)
