-- The models as the program has them, each at its number.
use Rattle.std.proofs.Common.{◌≡◌, ℕ, zero, suc, ◌-◌, ◌<◌, ◌≤◌, List, [], ◌∷◌, length, Option, Some, None, option_map, is_some, refl, sym, ap, subst, ◌∙◌, arith, Bor}
use Rattle.std.specs.Prelude.{IfSome, IsNone, IsSome, IsSomeAnd, slice_get}
use Rattle.std.specs.List.{AllZip}
use Rattle.std.specs.Slice.{IsItemAt}
use Rattle.std.proofs.lemmas.Bool.{false≢true}
use Rattle.std.proofs.lemmas.Option.{slice_get_past, slice_get_read, slice_get_within}
use Rattle.ob_definition.specs.Gathered.{Gathered}
use Rattle.ob_definition.specs.Members.{model_at}
use Rattle.ob_registry.specs.declared.model.Model.{Model}
use Rattle.ob_registry.specs.Modelling.{AreModelled, IsModelled}

-- what a look-up at a place lends
pub item_at : {X : Type 0} (xs : List X) (i : ℕ) (r : Option (Bor X)) → IsItemAt xs i r → option_map (λ x. x.now) r ≡ slice_get xs i
item_at xs i None item = sym (slice_get_past xs i item.3)
item_at xs i (Some x) item = sym (slice_get_read xs (length xs) i x.now refl item.3.0 item.1)

-- two lists that stand place by place
pub zip_some : {A B : Type 0} (R : A → B → Type 0) (xs : List A) (ys : List B) → AllZip R xs ys → (i : ℕ) (y : B) → slice_get ys i ≡ Some y → IsSomeAnd (slice_get xs i) (λ x. R x y)
zip_some R [] [] all i y at = absurd (let e : ◌≡◌ {A = Option _} None (Some y) = at in cc)
zip_some R [] (z ∷ ys) all i y at = absurd all
zip_some R (x ∷ xs) [] all i y at = absurd all
zip_some {A} {B} R (x ∷ xs) (z ∷ ys) all zero y at = subst (λ (b : B). R x b) (let e : ◌≡◌ {A = Option B} (Some z) (Some y) = at in cc) all.0
zip_some R (x ∷ xs) (z ∷ ys) all (suc i) y at = zip_some R xs ys all.1 i y at

pub zip_none : {A B : Type 0} (R : A → B → Type 0) (xs : List A) (ys : List B) → AllZip R xs ys → (i : ℕ) → slice_get ys i ≡ None → slice_get xs i ≡ None
zip_none R [] [] all i at = refl
zip_none R [] (z ∷ ys) all i at = absurd all
zip_none R (x ∷ xs) [] all i at = absurd all
zip_none {A} {B} R (x ∷ xs) (z ∷ ys) all zero at = absurd (let e : ◌≡◌ {A = Option B} (Some z) None = at in cc)
zip_none R (x ∷ xs) (z ∷ ys) all (suc i) at = zip_none R xs ys all.1 i at

-- the place of a number
pub model_at-place : (models : List Gathered) (number i : ℕ) → 1 ≤ number → i ≡ number - 1 → model_at models number ≡ slice_get models i
model_at-place models zero i low is = absurd (omega arith)
model_at-place models (suc k) i low is = ap (slice_get models) (let same : k ≡ i = omega arith in same)

module _ (models : List Gathered) (list : List Model) (are : AreModelled models list) where
  -- what stands at the place of a number is its model
  pub model_read : (number i : ℕ) (model : Model) → 1 ≤ number → i ≡ number - 1 → slice_get list i ≡ Some model → IsSomeAnd (model_at models number) (λ g. IsModelled models g model)
  model_read number i model low is at =
      subst (λ (o : Option Gathered). IsSomeAnd o (λ g. IsModelled models g model)) (sym (model_at-place models number i low is)) (zip_some (IsModelled models) models list are.each i model at)

  pub model_missing : (number i : ℕ) → 1 ≤ number → i ≡ number - 1 → slice_get list i ≡ None → model_at models number ≡ None
  model_missing number i low is at = model_at-place models number i low is ∙ zip_none (IsModelled models) models list are.each i at

  pub model_lent : (number i : ℕ) (r : Option (Bor Model)) → 1 ≤ number → i ≡ number - 1 → IsItemAt list i r → IfSome r (λ model. IsSomeAnd (model_at models number) (λ g. IsModelled models g model.now))
  model_lent number i None low is item = tt
  model_lent number i (Some x) low is item = model_read number i x.now low is (sym (item_at list i (Some x) item))

  pub model_not_lent : (number i : ℕ) (r : Option (Bor Model)) → 1 ≤ number → i ≡ number - 1 → IsItemAt list i r → IsNone r → model_at models number ≡ None
  model_not_lent number i None low is item none = model_missing number i low is (sym (item_at list i None item))
  model_not_lent number i (Some x) low is item none = absurd (false≢true (sym none))

  -- a number that there is has its place
  pub place_within : (number : ℕ) → IsSome (model_at models number) → (1 ≤ number) × (number - 1 < length list)
  place_within zero there = absurd (false≢true there)
  place_within (suc k) there = (omega arith, by (slice_get list k) refl)
    where
      by : (o : Option Model) → slice_get list k ≡ o → suc k - 1 < length list
      by None e = absurd (false≢true (sym (ap is_some (zip_none (IsModelled models) models list are.each k e)) ∙ there))
      by (Some m) e = let low = slice_get_within list k m e in omega arith

  -- and its model
  pub model_there : (number : ℕ) → IsSome (model_at models number) → (model : Model) × IsSomeAnd (model_at models number) (λ g. IsModelled models g model)
  model_there number known = by (slice_get list (number - 1)) refl
    where
      by : (o : Option Model) → slice_get list (number - 1) ≡ o → (model : Model) × IsSomeAnd (model_at models number) (λ g. IsModelled models g model)
      by None e = absurd (false≢true (sym (ap is_some (model_missing number (number - 1) (place_within number known).0 refl e)) ∙ known))
      by (Some model) e = (model, model_read number (number - 1) model (place_within number known).0 refl e)
