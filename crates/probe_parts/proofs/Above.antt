-- An id above the last of ids that rise is above all of them.
use Rattle.std.proofs.Common.{◌≡◌, ◌<◌, ◌≤◌, ◌-◌, ℕ, zero, suc, List, length, get_or, map, refl, ap, arith}
use Rattle.std.proofs.lemmas.List.{get_or-map, length-map}
use Rattle.std.proofs.lemmas.List.Kept.{AllPairs-from_increasing}
use Rattle.std.specs.List.{All}
use Rattle.std.specs.List.Sorted.{IsStrictlyIncreasing}
use Rattle.ob_base.specs.declared.id.RecId.{RecId}
use Rattle.ob_base.specs.Rising.{IsRising}

abbrev number : RecId → ℕ
number id = id.0

-- no number is above the last one
last_most : (xs : List ℕ) (k left : ℕ) → IsStrictlyIncreasing xs → k < length xs → left ≡ length xs - 1 - k → get_or xs k 0 ≤ get_or xs (length xs - 1) 0
last_most xs k zero rising within is =
    let e : k ≡ length xs - 1 = omega arith in
    rw e (omega arith)
last_most xs k (suc n) rising within is =
    let before : k < length xs - 1 = omega arith in
    let there : length xs - 1 < length xs = omega arith in
    let below : get_or xs k 0 < get_or xs (length xs - 1) 0 = AllPairs-from_increasing xs rising k (length xs - 1) 0 before there in
    omega arith

pub above_last : (ids : List RecId) (last id : RecId) → IsRising ids → last ≡ get_or ids (length ids - 1) last → last.0 < id.0 → All (λ before. before.0 < id.0) ids
above_last ids last id rising is above = λ k d h.
    let as_many : length (map number ids) ≡ length ids = length-map ids number in
    let within : k < length (map number ids) = omega arith in
    let there : length ids - 1 < length ids = omega arith in
    let most : get_or (map number ids) k 0 ≤ get_or (map number ids) (length (map number ids) - 1) 0 = last_most (map number ids) k (length (map number ids) - 1 - k) rising within refl in
    let most_of : get_or (map number ids) k 0 ≤ get_or (map number ids) (length ids - 1) 0 = rw as_many at most in
    let one : get_or (map number ids) k 0 ≡ number (get_or ids k d) = get_or-map number ids k d 0 h in
    let other : get_or (map number ids) (length ids - 1) 0 ≡ number (get_or ids (length ids - 1) last) = get_or-map number ids (length ids - 1) last 0 there in
    let same : number last ≡ number (get_or ids (length ids - 1) last) = ap number is in
    omega arith
