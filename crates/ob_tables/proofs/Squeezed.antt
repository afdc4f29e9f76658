-- Items that ascend by a key: those between two with the same key have it too.
use Rattle.std.proofs.Common.{◌≡◌, ◌<◌, ◌≤◌, ℕ, suc, true, false, List, get_or, Some, refl, sym, ap, ◌∙◌, arith}
use Rattle.std.specs.Prelude.{slice_get}
use Rattle.std.specs.Cmp.{IsTotalOrder}
use Rattle.std.specs.FinMap.{IsAntisymmetric}
use Rattle.std.specs.List.Sorted.{IsSortedBy}
use Rattle.std.specs.Ordering.{is_lt, ordering_reverse}
use Rattle.std.specs.declared.cmp.Ordering.{Ordering}
use Rattle.std.specs.declared.cmp.Ordering.TheVariants.{Less, Equal, Greater}
use Rattle.std.proofs.lemmas.List.Sorted.{ranks_by, sorted_far}
use Rattle.std.proofs.lemmas.Option.{get_or_from_slice_get, slice_get_within}

contrary : {P : Type 0} → false ≡ true → P
contrary e = cc

module _ {K : Type 0} {R : K → K → Ordering} (o : IsTotalOrder R) (exact : IsAntisymmetric R) where
  between : (a b : K) → is_lt (R b a) ≡ false → is_lt (R a b) ≡ false → a ≡ b
  between a b up down = by (R a b) refl
    where
      by : (r : Ordering) → R a b ≡ r → a ≡ b
      by Less e = contrary (sym down ∙ ap is_lt e)
      by Equal e = exact a b e
      by Greater e = contrary (sym up ∙ ap is_lt (o.antisymm b a ∙ ap ordering_reverse e))

  module _ {X : Type 0} (key : X → K) (xs : List X) (up : IsSortedBy (λ a b. is_lt (R (key a) (key b))) xs) where
    far : (i j : ℕ) (x y : X) → i ≤ j → slice_get xs i ≡ Some x → slice_get xs j ≡ Some y → is_lt (R (key y) (key x)) ≡ false
    far i j x y low a b =
        ap (λ z. is_lt (R (key z) (key x))) (sym (get_or_from_slice_get xs j y x b)) ∙ ap (λ z. is_lt (R (key (get_or xs j x)) (key z))) (sym (get_or_from_slice_get xs i x x a))
        ∙ sorted_far (λ (a b : X). is_lt (R (key a) (key b))) (ranks_by o key) xs up i j x low (slice_get_within xs j y b)

    -- the one after the first of two that are alike is alike
    pub alike-after : (i j : ℕ) (x y z : X) → i < j → slice_get xs i ≡ Some x → slice_get xs j ≡ Some y → slice_get xs (suc i) ≡ Some z → key x ≡ key y → key x ≡ key z
    alike-after i j x y z low a b c same =
        between (key x) (key z) (far i (suc i) x z (omega arith) a c) (ap (λ k. is_lt (R k (key z))) same ∙ far (suc i) j z y (omega arith) c b)

    -- and so is the one before the second
    pub alike-before : (i j : ℕ) (x y z : X) → i ≤ j → slice_get xs i ≡ Some x → slice_get xs (suc j) ≡ Some y → slice_get xs j ≡ Some z → key x ≡ key y → key z ≡ key y
    alike-before i j x y z low a b c same =
        between (key z) (key y) (far j (suc j) z y (omega arith) c b) (ap (λ k. is_lt (R (key z) k)) (sym same) ∙ far i j x z low a c)
