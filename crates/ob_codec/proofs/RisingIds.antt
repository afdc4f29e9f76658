-- Ids that rise, each above the one before it, as a list and by recursion.
use Rattle.std.proofs.Common.{◌≡◌, ℕ, zero, suc, ◌+◌, ◌<◌, ◌≤◌, List, [], ◌∷◌, length, get_or, map, subst, arith}
use Rattle.std.specs.List.{All}
use Rattle.std.specs.List.Sorted.{IsStrictlyIncreasing}
use Rattle.std.proofs.lemmas.List.{length-map}
use Rattle.std.proofs.lemmas.List.Elements.{All-cons, All-tail}
use Rattle.ob_base.specs.Ids.{IsId}
use Rattle.ob_base.specs.Rising.{IsRising}
use Rattle.ob_base.specs.declared.id.RecId.{RecId}

-- each is above the one before it and within the limit, the first above this one
abbrev pub Rises : ℕ → List RecId → Type 0
Rises before [] = Unit {0}
Rises before (id ∷ ids) = (before < id.0) × (id.0 ≤ 4294967295) × Rises id.0 ids

increasing_cons : (x : ℕ) (xs : List ℕ) → (0 < length xs → x < get_or xs 0 0) → IsStrictlyIncreasing xs → IsStrictlyIncreasing (x ∷ xs)
increasing_cons x xs first rising zero h = first (omega arith)
increasing_cons x xs first rising (suc k) h =
    let more : suc k ≡ k + 1 = omega arith in
    let next : get_or xs k 0 < get_or xs (suc k) 0 = rw more (rising k (omega arith)) in
    let place : suc (suc k) ≡ suc k + 1 = omega arith in
    subst (λ (j : ℕ). get_or xs k 0 < get_or (x ∷ xs) j 0) place next

increasing_tail : (x : ℕ) (xs : List ℕ) → IsStrictlyIncreasing (x ∷ xs) → IsStrictlyIncreasing xs
increasing_tail x xs rising = λ k h.
    let place : suc k + 1 ≡ suc (k + 1) = omega arith in
    subst (λ (j : ℕ). get_or xs k 0 < get_or (x ∷ xs) j 0) place (rising (suc k) (omega arith))

-- the first of ids that rise
first_above : (before : ℕ) (ids : List RecId) → Rises before ids → 0 < length (map (λ (id : RecId). id.0) ids) → before < get_or (map (λ (id : RecId). id.0) ids) 0 0
first_above before [] rises some = absurd (omega arith)
first_above before (id ∷ ids) rises some = rises.0

pub IsRising-from_Rises : (before : ℕ) (ids : List RecId) → Rises before ids → IsRising ids
IsRising-from_Rises before [] rises = λ k h. absurd (omega arith)
IsRising-from_Rises before (id ∷ ids) rises = increasing_cons id.0 (map (λ (i : RecId). i.0) ids) (first_above id.0 ids rises.2) (IsRising-from_Rises id.0 ids rises.2)

pub All-from_Rises : (before : ℕ) (ids : List RecId) → Rises before ids → All IsId ids
All-from_Rises before [] rises = λ k d h. absurd (omega arith)
All-from_Rises before (id ∷ ids) rises = All-cons IsId id ids (omega (arith, rises.0), rises.1) (All-from_Rises id.0 ids rises.2)

pub Rises-from_IsRising : (before : ℕ) (ids : List RecId) → (0 < length ids → before < get_or (map (λ (id : RecId). id.0) ids) 0 0) → IsRising ids → All IsId ids → Rises before ids
Rises-from_IsRising before [] first rising within = tt
Rises-from_IsRising before (id ∷ ids) first rising within =
    let here : IsId id = within 0 id (omega arith) in
    let next = λ (h : 0 < length ids). rising 0 (omega (arith, length-map ids (λ (i : RecId). i.0))) in
    (first (omega arith), here.1, Rises-from_IsRising id.0 ids next (increasing_tail id.0 (map (λ (i : RecId). i.0) ids) rising) (All-tail IsId id ids within))

-- the first of ids is above 0
pub first_id : (ids : List RecId) → All IsId ids → 0 < length ids → 0 < get_or (map (λ (id : RecId). id.0) ids) 0 0
first_id [] within some = absurd (omega arith)
first_id (id ∷ ids) within some = let here : IsId id = within 0 id (omega arith) in omega (arith, here.0)

-- there are no more ids above this one than numbers up to the limit
pub length-Rises : (before : ℕ) (ids : List RecId) → before ≤ 4294967295 → Rises before ids → before + length ids ≤ 4294967295
length-Rises before [] small rises = omega arith
length-Rises before (id ∷ ids) small rises = omega (arith, rises.0, length-Rises id.0 ids rises.1 rises.2)
