-- Sums of signed numbers: a sum doesn't depend on the order.
use Rattle.std.proofs.Common.{◌≡◌, ℤ, pos, ◌+◌, ◌+ℤ◌, ◌≤ℤ◌, List, [], ◌∷◌, ◌++◌, refl, arith}
use Rattle.std.specs.List.{All, sum_by}
use Rattle.std.specs.List.Sorted.{IsPermutation}
use Rattle.std.proofs.lemmas.Int.{ints}
use Rattle.std.proofs.lemmas.List.Elements.{All-head, All-tail}
use Rattle.std.proofs.lemmas.List.Sorted.{sum_by-IsPermutation}
use Rattle.std.proofs.lemmas.List.Sums.{sum_by-cons}
use borrow.Author.Differences.{up, down}
use Rattle.wh_quant.specs.Sums.{total}

-- a signed sum is the sum of what is above zero less that of what is below
total_parts : {X : Type 0} (f : X → ℤ) (xs : List X) → (total f xs +ℤ pos (sum_by (λ x. down (f x)) xs)) ≡ pos (sum_by (λ x. up (f x)) xs)
total_parts f [] = refl
total_parts f (x ∷ xs) =
    let rest = total_parts f xs in
    let whole : total f (x ∷ xs) ≡ (f x +ℤ total f xs) = refl in
    let ups : sum_by (λ y. up (f y)) (x ∷ xs) ≡ up (f x) + sum_by (λ y. up (f y)) xs = sum_by-cons (λ y. up (f y)) x xs in
    let downs : sum_by (λ y. down (f y)) (x ∷ xs) ≡ down (f x) + sum_by (λ y. down (f y)) xs = sum_by-cons (λ y. down (f y)) x xs in
    omega (arith, ints)

pub total-IsPermutation : {X : Type 0} (f : X → ℤ) (xs ys : List X) → IsPermutation xs ys → total f ys ≡ total f xs
total-IsPermutation f xs ys same =
    let ups = sum_by-IsPermutation (λ x. up (f x)) xs ys same in
    let downs = sum_by-IsPermutation (λ x. down (f x)) xs ys same in
    let left = total_parts f xs in
    let right = total_parts f ys in
    omega (arith, ints)

-- a sum of numbers that are not negative isn't
pub total-least : {X : Type 0} (f : X → ℤ) (xs : List X) → All (λ x. pos 0 ≤ℤ f x) xs → pos 0 ≤ℤ total f xs
total-least f [] all = omega (arith, ints)
total-least f (x ∷ xs) all =
    let rest = total-least f xs (All-tail (λ x. pos 0 ≤ℤ f x) x xs all) in
    let first = All-head (λ x. pos 0 ≤ℤ f x) x xs all in
    omega (arith, ints)

pub total-append : {X : Type 0} (f : X → ℤ) (xs ys : List X) → total f (xs ++ ys) ≡ (total f xs +ℤ total f ys)
total-append f [] ys = omega (arith, ints)
total-append f (x ∷ xs) ys = let rest = total-append f xs ys in omega (arith, ints)
