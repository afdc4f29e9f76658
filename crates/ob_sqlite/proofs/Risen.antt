-- Ids that rise above one and up to another, with one more at the end.
use Rattle.std.proofs.Common.{◌≡◌, ℕ, ◌<◌, ◌≤◌, ◌+◌, List, [], ◌∷◌, ◌++◌, length, get_or, map, refl, arith, length-append}
use Rattle.std.proofs.lemmas.List.{map-append, get_or-map, length-map, get_or_append_left}
use Rattle.std.proofs.lemmas.List.Elements.{All-nil, All-push, All-weaker}
use Rattle.std.proofs.Math.Seq.{get_or-append_seam}
use Rattle.std.specs.List.{All}
use Rattle.std.specs.List.Sorted.{IsStrictlyIncreasing}
use Rattle.ob_base.specs.declared.id.RecId.{RecId}
use Rattle.ob_base.specs.Rising.{IsRising}
use Rattle.ob_io.specs.declared.store.KeptRow.{KeptRow}
use Rattle.ob_io.specs.Store.{Fits63, IsAnswerOf, IsPage}

-- they rise, above that one and up to the last
pub record AreRisen (after last : RecId) (ids : List RecId) : Type 0 where
  pub above : All (λ id. (after.0 < id.0) × Fits63 id.0) ids
  pub below : All (λ id. id.0 ≤ last.0) ids
  pub rising : IsRising ids
  pub beyond : after.0 ≤ last.0

-- the element at the end
at_seam : (xs : List ℕ) (x i : ℕ) → i ≡ length xs → get_or (xs ++ x ∷ []) i 0 ≡ x
at_seam xs x i e = rw e (get_or-append_seam xs x [] 0)

increasing_push : (xs : List ℕ) (x : ℕ) → IsStrictlyIncreasing xs → ((k : ℕ) → k < length xs → get_or xs k 0 < x) → IsStrictlyIncreasing (xs ++ x ∷ [])
increasing_push xs x rising above = λ k h.
    grind (arith, rising k, above k, length-append xs (x ∷ []), get_or_append_left xs (x ∷ []) 0 k, get_or_append_left xs (x ∷ []) 0 (k + 1), at_seam xs x (k + 1))

rising_push : (ids : List RecId) (id : RecId) → IsRising ids → All (λ before. before.0 < id.0) ids → IsRising (ids ++ id ∷ [])
rising_push ids id rising above =
    rw (map-append (λ (r : RecId). r.0) ids (id ∷ []))
    (increasing_push (map (λ (r : RecId). r.0) ids) id.0 rising (λ k h.
    let h' : k < length ids = omega (arith, length-map ids (λ (r : RecId). r.0)) in
    rw (get_or-map (λ (r : RecId). r.0) ids k id 0 h') (above k id h')))

pub none_risen : (after : RecId) → AreRisen after after []
none_risen after = record {
  above = All-nil (λ (id : RecId). (after.0 < id.0) × Fits63 id.0);
  below = All-nil (λ (id : RecId). id.0 ≤ after.0);
  rising = λ k h. absurd (omega arith);
  beyond = omega arith;
}

one_more : (after last id : RecId) (ids : List RecId) → AreRisen after last ids → last.0 < id.0 → Fits63 id.0 → AreRisen after id (ids ++ id ∷ [])
one_more after last id ids are up fits = record {
  above = All-push (λ (x : RecId). (after.0 < x.0) × Fits63 x.0) ids id are.above (omega arith, fits);
  below = All-push (λ (x : RecId). x.0 ≤ id.0) ids id (All-weaker (λ (x : RecId). x.0 ≤ last.0) (λ x. x.0 ≤ id.0) (λ x low. omega arith) ids are.below) (omega arith);
  rising = rising_push ids id are.rising (All-weaker (λ (x : RecId). x.0 ≤ last.0) (λ x. x.0 < id.0) (λ x low. omega arith) ids are.below);
  beyond = omega arith;
}

abbrev ids_of : List KeptRow → List RecId
ids_of rows = map (λ row. row.id) rows

-- rows with one more, of an id above the last
pub one_more_row : (after last id : RecId) (rows : List KeptRow) (row : KeptRow) → AreRisen after last (ids_of rows) → IsAnswerOf id row → last.0 < id.0 → Fits63 id.0
    → AreRisen after id (ids_of (rows ++ row ∷ []))
one_more_row after last id rows row are answer up fits = rw (map-append (λ (r : KeptRow). r.id) rows (row ∷ []), answer.same_id) (one_more after last id (ids_of rows) are up fits)

-- an answer of some id is one of its own
pub own_answer : (id : RecId) (row : KeptRow) → IsAnswerOf id row → IsAnswerOf row.id row
own_answer id row answer = record { same_id = refl; rising = answer.rising; targets = answer.targets }

-- rows of such ids, not too many of them, are a page
pub page_of : (after last : RecId) (most : ℕ) (rows : List KeptRow) → AreRisen after last (ids_of rows) → length rows ≤ most → IsPage after most (ids_of rows)
page_of after last most rows are few = record { few = omega (arith, length-map rows (λ (r : KeptRow). r.id)); above = are.above; rising = are.rising }
