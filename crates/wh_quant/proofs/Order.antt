-- What a line keeps: the order of ids, and that those of new quants are the next ones.
use Rattle.std.proofs.Common.{◌≡◌, ℕ, ℤ, ◌+◌, ◌<◌, List, [], ◌∷◌, ◌++◌, length, get_or, map, Option, Some, None, Bool, true, false, cond, refl, sym, ◌∙◌, ap, arith, length-append}
use Rattle.std.specs.List.{find, All}
use Rattle.std.specs.List.Sorted.{IsStrictlyIncreasing}
use Rattle.std.specs.Option.{unwrap_or}
use Rattle.std.proofs.lemmas.Option.{same_Some}
use Rattle.std.proofs.lemmas.List.{get_or_append_left}
use Rattle.std.proofs.lemmas.List.Elements.{All-push, All-weaker}
use Rattle.std.proofs.Math.Seq.{get_or-append_seam}
use Rattle.wh_quant.specs.declared.quant.Quant.{Quant}
use Rattle.wh_quant.specs.declared.quant.Line.{Line}
use Rattle.wh_quant.specs.Spots.{spot_of, source_spot, destination_spot, is_at}
use Rattle.wh_quant.specs.Moves.{Holdings, quants_with, with_quant, empty_quant, source_quant, lowered}
use Rattle.wh_quant.specs.Moves.{incoming_date, after_taking, destination_after, after_line, holdings_after}
use Rattle.wh_quant.proofs.Starts.{id_of}
use Rattle.wh_quant.proofs.Exact.{spot-source_quant, spot-destination_quant}

found_ids_cons : (new q old : Quant) (qs : List Quant) (b : Bool) → cond b (Some q) (find (is_at (spot_of new)) qs) ≡ Some old → new.id ≡ old.id →
    (find (is_at (spot_of new)) qs ≡ Some old → map id_of (quants_with new qs) ≡ map id_of qs) → map id_of (cond b (new ∷ qs) (q ∷ quants_with new qs)) ≡ map id_of (q ∷ qs)
found_ids_cons new q old qs true found same rest =
    let is : q ≡ old = same_Some q old found in
    ap (λ (id : ℕ). id ∷ map id_of qs) (λ i. ((same ∙ ap (λ (x : Quant). x.id) (sym is)) i).0)
found_ids_cons new q old qs false found same rest = ap (λ ids. id_of q ∷ ids) (rest found)

-- a quant with the id of the one whose place it takes leaves the ids as they are
found_ids : (new old : Quant) (qs : List Quant) → find (is_at (spot_of new)) qs ≡ Some old → new.id ≡ old.id → map id_of (quants_with new qs) ≡ map id_of qs
found_ids new old [] found same = absurd (cc found)
found_ids new old (q ∷ qs) found same = found_ids_cons new q old qs (is_at (spot_of new) q) found same (λ h. found_ids new old qs h same)

new_ids_cons : (new q : Quant) (qs : List Quant) (b : Bool) → cond b (Some q) (find (is_at (spot_of new)) qs) ≡ None →
    (find (is_at (spot_of new)) qs ≡ None → map id_of (quants_with new qs) ≡ map id_of qs ++ id_of new ∷ []) →
    map id_of (cond b (new ∷ qs) (q ∷ quants_with new qs)) ≡ map id_of (q ∷ qs) ++ id_of new ∷ []
new_ids_cons new q qs true none rest = absurd (cc none)
new_ids_cons new q qs false none rest = ap (λ ids. id_of q ∷ ids) (rest none)

-- a quant of a new spot adds its id at the end
new_ids : (new : Quant) (qs : List Quant) → find (is_at (spot_of new)) qs ≡ None → map id_of (quants_with new qs) ≡ map id_of qs ++ id_of new ∷ []
new_ids new [] none = refl
new_ids new (q ∷ qs) none = new_ids_cons new q qs (is_at (spot_of new) q) none (new_ids new qs)

at_seam : (xs : List ℕ) (x i : ℕ) → i ≡ length xs → get_or (xs ++ x ∷ []) i 0 ≡ x
at_seam xs x i e = rw e (get_or-append_seam xs x [] 0)

-- numbers that rise still rise with a number above all of them at the end
increasing_push : (xs : List ℕ) (x : ℕ) → IsStrictlyIncreasing xs → All (λ n. n < x) xs → IsStrictlyIncreasing (xs ++ x ∷ [])
increasing_push xs x rising above = λ k h.
    grind (arith, rising k, above k 0, length-append xs (x ∷ []), get_or_append_left xs (x ∷ []) 0 k, get_or_append_left xs (x ∷ []) 0 (k + 1), at_seam xs x (k + 1))

-- ids rise, below the next one
pub record InOrder (stock : Holdings) : Type 0 where
  pub rising : IsStrictlyIncreasing (map id_of stock.quants)
  pub below : All (λ id. id < stock.next) (map id_of stock.quants)

order_kept : (new e : Quant) (stock : Holdings) (o : Option Quant) → find (is_at (spot_of new)) stock.quants ≡ o → InOrder stock → new.id ≡ (unwrap_or o e).id →
    id_of e ≡ stock.next → InOrder (with_quant new stock)
order_kept new e stock None is before id next =
    let ids = new_ids new stock.quants is in
    let here : id_of new ≡ stock.next = (λ i. (id i).0) ∙ next in
    record {
      rising = rw (ids, here) (increasing_push (map id_of stock.quants) stock.next before.rising before.below);
      below = rw (is, ids, here) (All-push (λ id. id < stock.next + 1) (map id_of stock.quants) stock.next
          (All-weaker (λ id. id < stock.next) (λ id. id < stock.next + 1) (λ x h. omega arith) (map id_of stock.quants) before.below) (omega arith));
    }
order_kept new e stock (Some old) is before id next =
    let ids = found_ids new old stock.quants is id in
    record { rising = rw ids before.rising; below = rw (is, ids) before.below }

order-after_taking : (now : ℤ) (line : Line) (stock : Holdings) → InOrder stock → InOrder (after_taking now line stock)
order-after_taking now line stock before =
    let e = empty_quant stock.next (source_spot line) now line.guarded_from in
    order_kept (lowered line (source_quant now line stock)) e stock (find (is_at (spot_of (lowered line (source_quant now line stock)))) stock.quants) refl before
    (ap (λ spot. (unwrap_or (find (is_at spot) stock.quants) e).id) (sym (spot-source_quant now line stock))) refl

pub order-after_line : (now : ℤ) (stock : Holdings) (line : Line) → InOrder stock → InOrder (after_line now stock line)
order-after_line now stock line before =
    let source = source_quant now line stock in
    let taken = after_taking now line stock in
    let e = empty_quant taken.next (destination_spot line) (incoming_date now line source) line.guarded_to in
    order_kept (destination_after now line stock) e taken (find (is_at (spot_of (destination_after now line stock))) taken.quants) refl (order-after_taking now line stock before)
    (ap (λ spot. (unwrap_or (find (is_at spot) taken.quants) e).id) (sym (spot-destination_quant now line source taken))) refl

pub order-holdings_after : (now : ℤ) (stock : Holdings) (lines : List Line) → InOrder stock → InOrder (holdings_after now stock lines)
order-holdings_after now stock [] before = before
order-holdings_after now stock (line ∷ lines) before = order-holdings_after now (after_line now stock line) lines (order-after_line now stock line before)
