-- The order of values is total, and exact: a value is its variant, its number and its list.
use Rattle.std.proofs.Common.{◌≡◌, ℕ, ℤ, pos, negsuc, List, [], ◌∷◌, map, true, false, refl, ap, cond, eqb}
use Rattle.std.specs.Prelude.{Bool}
use Rattle.std.specs.declared.cmp.Ordering.{Ordering}
use Rattle.std.specs.declared.cmp.Ordering.TheVariants.{Less, Equal, Greater}
use Rattle.std.specs.Cmp.{IsTotalOrder}
use Rattle.std.specs.Cmp.Lexicographic.{slice_cmp}
use Rattle.std.specs.FinMap.{IsAntisymmetric, nat_cmp-IsAntisymmetric, int_cmp-IsAntisymmetric, slice_cmp-IsAntisymmetric}
use Rattle.std.specs.Ordering.{nat_cmp, int_cmp, ordering_then}
use Rattle.std.proofs.lemmas.Cmp.{then_total, on_total, nat_cmp_total, int_cmp_total, nat_list_cmp_total}
use Rattle.ob_base.specs.declared.id.RecId.{RecId}
use Rattle.ob_base.specs.declared.value.Value.{Value}
use Rattle.ob_base.specs.declared.value.Value.TheVariants.{Nil, Bool as Flag, Int, Word, Day, Moment, Ref, Refs}
use Rattle.ob_base.specs.ValueOrder.{variant_of, integer_of, list_of, value_order}

-- each of the three parts is ordered totally
pub value_order_total : IsTotalOrder value_order
value_order_total =
    then_total (on_total variant_of nat_cmp_total)
    (then_total (on_total integer_of int_cmp_total) (on_total list_of nat_list_cmp_total))

-- the absolute size of a number that is not negative
abbrev size_of : ℤ → ℕ
size_of (pos n) = n
size_of (negsuc n) = 0

-- the flag that a number stands for
abbrev flag_of : ℤ → Bool
flag_of (pos n) = eqb n 1
flag_of (negsuc n) = false

-- the value of these three parts
abbrev value_from : ℕ → ℤ → List ℕ → Value
value_from v n xs =
    cond (eqb v 0) Nil
    (cond (eqb v 1) (Flag (flag_of n))
    (cond (eqb v 2) (Int n)
    (cond (eqb v 3) (Word xs)
    (cond (eqb v 4) (Day n)
    (cond (eqb v 5) (Moment n)
    (cond (eqb v 6) (Ref (record { 0 = size_of n }))
    (Refs (map (λ x. record { 0 = x }) xs))))))))

-- ids made of their numbers
ids_again : (ids : List RecId) → map (λ (x : ℕ). let id : RecId = record { 0 = x } in id) (map (λ (id : RecId). id.0) ids) ≡ ids
ids_again [] = refl
ids_again (id ∷ ids) = ap (λ rest. id ∷ rest) (ids_again ids)

-- a value is made again of its parts
from_parts : (v : Value) → value_from (variant_of v) (integer_of v) (list_of v) ≡ v
from_parts Nil = refl
from_parts (Flag true) = refl
from_parts (Flag false) = refl
from_parts (Int n) = refl
from_parts (Word bytes) = refl
from_parts (Day n) = refl
from_parts (Moment n) = refl
from_parts (Ref id) = refl
from_parts (Refs ids) = ap Refs (ids_again ids)

-- where a chain of two answers is equal, both are
pub both_equal : (o p : Ordering) → ordering_then o p ≡ Equal → (o ≡ Equal) × (p ≡ Equal)
both_equal Less p e = cc
both_equal Equal p e = (refl, e)
both_equal Greater p e = cc

-- only equal values compare as equal
pub value_order_exact : IsAntisymmetric value_order
value_order_exact a b e =
    let first = both_equal (nat_cmp (variant_of a) (variant_of b)) _ e in
    let then = both_equal (int_cmp (integer_of a) (integer_of b)) _ first.1 in
    let variants : variant_of a ≡ variant_of b = nat_cmp-IsAntisymmetric _ _ first.0 in
    let numbers : integer_of a ≡ integer_of b = int_cmp-IsAntisymmetric _ _ then.0 in
    let lists : list_of a ≡ list_of b = slice_cmp-IsAntisymmetric nat_cmp-IsAntisymmetric _ _ then.1 in
    cc (from_parts a, from_parts b)

-- to compare ids by a test that compares their numbers is to compare the numbers
pub slice_cmp-ids : (R : RecId → RecId → Ordering) → ((x y : RecId) → R x y ≡ nat_cmp x.0 y.0) → (xs ys : List RecId) → slice_cmp R xs ys ≡ slice_cmp nat_cmp (map (λ (id : RecId). id.0) xs) (map (λ (id : RecId). id.0) ys)
slice_cmp-ids R by_number [] [] = refl
slice_cmp-ids R by_number [] (y ∷ ys) = refl
slice_cmp-ids R by_number (x ∷ xs) [] = refl
slice_cmp-ids R by_number (x ∷ xs) (y ∷ ys) = rw (by_number x y, slice_cmp-ids R by_number xs ys)
