-- References to candidates that a sort has put in order are candidates in order.
use Rattle.std.proofs.Common.{◌≡◌, pos, ◌+◌, ◌<◌, List, [], ◌∷◌, map, length, Bor, sym, arith}
use Rattle.std.specs.Prelude.{int_lt}
use Rattle.std.specs.List.{filter}
use Rattle.std.specs.List.Sorted.{IsPermutation, IsSorted, IsSortedBy}
use Rattle.std.specs.Ordering.{is_lt}
use Rattle.std.proofs.lemmas.List.{get_or-map, length-map}
use Rattle.std.proofs.lemmas.List.Sorted.{IsPermutation-map}
use Rattle.wh_quant.specs.declared.stock.Stock.{Stock}
use Rattle.wh_quant.specs.declared.stock.Removal.{Removal}
use Rattle.wh_quant.specs.Takes.{removal_cmp, IsRanked}

-- the stock behind a reference
abbrev pub behind : Bor Stock → Stock
behind b = b.now

sorted_behind : (order : Removal) (refs : List (Bor Stock)) → IsSortedBy (λ x y. is_lt (removal_cmp order (behind x) (behind y))) refs → IsSorted (removal_cmp order) (map behind refs)
sorted_behind order [] sorted k d low high = absurd (omega arith)
sorted_behind order (r ∷ refs) sorted k d low high =
    let within : k + 1 < length (r ∷ refs) = omega (arith, length-map (r ∷ refs) behind) in
    let below : k < length (r ∷ refs) = omega arith in
    rw (get_or-map behind (r ∷ refs) (k + 1) r d within, get_or-map behind (r ∷ refs) k r d below) (sorted k r low within)

pub IsRanked-sorted : (order : Removal) (stocks : List Stock) (refs sorted : List (Bor Stock)) → map behind refs ≡ filter (λ s. int_lt (pos 0) s.free) stocks →
    IsPermutation refs sorted → IsSortedBy (λ x y. is_lt (removal_cmp order (behind x) (behind y))) sorted → IsRanked order stocks (map behind sorted)
IsRanked-sorted order stocks refs sorted is moved in_order = record {
  same = rw (sym is) (IsPermutation-map behind refs sorted moved);
  sorted = sorted_behind order sorted in_order;
}
