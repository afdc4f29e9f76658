-- Six elements, and what stands after them.
use Rattle.std.proofs.Common.{◌≡◌, ◌≤◌, List, [], ◌∷◌, ◌-◌, length, get_or, take, drop, refl, arith}
use Rattle.std.proofs.lemmas.List.{length-drop, take_all}

-- the elements at the first six numbers of a list
pub record IsSix {X : Type 0} (xs : List X) (a b c d e f : X) : Type 0 where
  pub first : a ≡ get_or xs 0 a
  pub second : b ≡ get_or xs 1 b
  pub third : c ≡ get_or xs 2 c
  pub fourth : d ≡ get_or xs 3 d
  pub fifth : e ≡ get_or xs 4 e
  pub sixth : f ≡ get_or xs 5 f

-- what a pattern names after six elements is the rest
pub rest_after_six : {X : Type 0} (xs : List X) → take (length xs - 6) (drop 6 xs) ≡ drop 6 xs
rest_after_six xs = take_all (length xs - 6) (drop 6 xs) (omega (arith, length-drop 6 xs))

-- a list of six elements or more is these and the rest
pub six_and_rest : {X : Type 0} (xs : List X) (a b c d e f : X) → 6 ≤ length xs → IsSix xs a b c d e f → xs ≡ a ∷ b ∷ c ∷ d ∷ e ∷ f ∷ drop 6 xs
six_and_rest [] a b c d e f many at = absurd (omega arith)
six_and_rest (x0 ∷ []) a b c d e f many at = absurd (omega arith)
six_and_rest (x0 ∷ x1 ∷ []) a b c d e f many at = absurd (omega arith)
six_and_rest (x0 ∷ x1 ∷ x2 ∷ []) a b c d e f many at = absurd (omega arith)
six_and_rest (x0 ∷ x1 ∷ x2 ∷ x3 ∷ []) a b c d e f many at = absurd (omega arith)
six_and_rest (x0 ∷ x1 ∷ x2 ∷ x3 ∷ x4 ∷ []) a b c d e f many at = absurd (omega arith)
six_and_rest (x0 ∷ x1 ∷ x2 ∷ x3 ∷ x4 ∷ x5 ∷ xs) a b c d e f many at = rw (at.first, at.second, at.third, at.fourth, at.fifth, at.sixth) refl
