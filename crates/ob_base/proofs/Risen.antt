-- Ids that rise, with one more.
use Rattle.std.proofs.Common.{◌≡◌, ℕ, ◌<◌, ◌+◌, List, [], ◌∷◌, ◌++◌, length, get_or, map, arith, length-append}
use Rattle.std.proofs.lemmas.List.{map-append, get_or-map, length-map, get_or_append_left}
use Rattle.std.proofs.Math.Seq.{get_or-append_seam}
use Rattle.std.specs.List.{All}
use Rattle.std.specs.List.Sorted.{IsStrictlyIncreasing}
use Rattle.ob_base.specs.declared.id.RecId.{RecId}
use Rattle.ob_base.specs.Rising.{IsRising}

-- the element at the end
at_seam : (xs : List ℕ) (x i : ℕ) → i ≡ length xs → get_or (xs ++ x ∷ []) i 0 ≡ x
at_seam xs x i e = rw e (get_or-append_seam xs x [] 0)

-- numbers that rise still rise with a number above all of them at the end
increasing_push : (xs : List ℕ) (x : ℕ) → IsStrictlyIncreasing xs → ((k : ℕ) → k < length xs → get_or xs k 0 < x) → IsStrictlyIncreasing (xs ++ x ∷ [])
increasing_push xs x rising above = λ k h.
    grind (arith, rising k, above k, length-append xs (x ∷ []), get_or_append_left xs (x ∷ []) 0 k, get_or_append_left xs (x ∷ []) 0 (k + 1), at_seam xs x (k + 1))

-- ids that rise still rise with an id above all of them at the end
pub IsRising-push : (ids : List RecId) (id : RecId) → IsRising ids → All (λ before. before.0 < id.0) ids → IsRising (ids ++ id ∷ [])
IsRising-push ids id rising above =
    rw (map-append (λ (r : RecId). r.0) ids (id ∷ []))
    (increasing_push (map (λ (r : RecId). r.0) ids) id.0 rising (λ k h.
    let h' : k < length ids = omega (arith, length-map ids (λ (r : RecId). r.0)) in
    rw (get_or-map (λ (r : RecId). r.0) ids k id 0 h') (above k id h')))
