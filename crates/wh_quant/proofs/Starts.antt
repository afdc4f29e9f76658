-- Quants sorted by id rise by id, since their ids differ.
use Rattle.std.proofs.Common.{ℕ, ◌<◌, List, [], ◌∷◌, map, length, nat_eq, arith}
use Rattle.std.specs.List.{IsDistinct}
use Rattle.std.specs.List.Sorted.{IsPermutation, IsNonDecreasing, IsNonDecreasingBy}
use Rattle.std.proofs.lemmas.Cmp.{nat_eq_equiv}
use Rattle.std.proofs.lemmas.List.{get_or-map, length-map}
use Rattle.std.proofs.lemmas.List.Sorted.{IsPermutation-map}
use Rattle.std.proofs.lemmas.Map.Keys.{IsDistinct-IsPermutation, IsStrictlyIncreasing-from_distinct}
use Rattle.wh_quant.specs.declared.quant.Quant.{Quant}
use Rattle.wh_quant.specs.Moves.{RiseById}

-- the number of a quant's id
abbrev pub id_of : Quant → ℕ
id_of q = q.id.0

ids_rise : (qs : List Quant) → IsNonDecreasingBy id_of qs → IsNonDecreasing (map id_of qs)
ids_rise [] up i j d order within = absurd (omega arith)
ids_rise (q ∷ qs) up i j d order within =
    let below : j < length (q ∷ qs) = omega (arith, length-map (q ∷ qs) id_of) in
    let before : i < length (q ∷ qs) = omega arith in
    rw (get_or-map id_of (q ∷ qs) i q d before, get_or-map id_of (q ∷ qs) j q d below) (up i j q order below)

pub RiseById-sorted : (quants sorted : List Quant) → IsDistinct nat_eq (map id_of quants) → IsPermutation quants sorted → IsNonDecreasingBy id_of sorted → RiseById sorted
RiseById-sorted quants sorted distinct moved up =
    IsStrictlyIncreasing-from_distinct (map id_of sorted) (ids_rise sorted up)
    (IsDistinct-IsPermutation nat_eq nat_eq_equiv.symm (map id_of quants) (map id_of sorted) (IsPermutation-map id_of quants sorted moved) distinct)
