-- Only equal spots tie, so a quant that is found at a spot stands there.
use Rattle.std.proofs.Common.{◌≡◌, ℤ, List, [], ◌∷◌, Option, Some, None, Bool, true, false, cond, refl, sym, ap}
use Rattle.std.specs.declared.cmp.Ordering.{Ordering}
use Rattle.std.specs.declared.cmp.Ordering.TheVariants.{Less, Equal, Greater}
use Rattle.std.specs.FinMap.{IsAntisymmetric, nat_cmp-IsAntisymmetric}
use Rattle.std.specs.List.{find, All}
use Rattle.std.specs.Option.{option_cmp, unwrap_or}
use Rattle.std.specs.Ordering.{nat_cmp, ordering_then, is_eq}
use Rattle.std.proofs.lemmas.List.Elements.{All-head, All-tail}
use Rattle.ob_base.specs.declared.id.RecId.{RecId}
use Rattle.wh_quant.specs.declared.quant.Quant.{Quant}
use Rattle.wh_quant.specs.declared.quant.Line.{Line}
use Rattle.wh_quant.specs.declared.spot.Spot.{Spot}
use Rattle.wh_quant.specs.Spots.{spot_of, source_spot, destination_spot, spot_cmp, is_at}
use Rattle.wh_quant.specs.Moves.{Holdings, empty_quant, source_quant, incoming_date, destination_quant}

-- where a chain of two answers is equal, both are
pub both_equal : (o p : Ordering) → ordering_then o p ≡ Equal → (o ≡ Equal) × (p ≡ Equal)
both_equal Less p e = cc
both_equal Equal p e = (refl, e)
both_equal Greater p e = cc

same_lot : (a b : Option RecId) → option_cmp (λ (x y : RecId). nat_cmp x.0 y.0) a b ≡ Equal → a ≡ b
same_lot None None e = refl
same_lot None (Some y) e = cc
same_lot (Some x) None e = cc
same_lot (Some x) (Some y) e = ap Some (λ i. record { 0 = nat_cmp-IsAntisymmetric x.0 y.0 e i })

pub spot_cmp_exact : IsAntisymmetric spot_cmp
spot_cmp_exact a b e =
    let first = both_equal (nat_cmp a.product.0 b.product.0) _ e in
    let then = both_equal (nat_cmp a.place.0 b.place.0) _ first.1 in
    let product = nat_cmp-IsAntisymmetric a.product.0 b.product.0 first.0 in
    let place = nat_cmp-IsAntisymmetric a.place.0 b.place.0 then.0 in
    let lot = same_lot a.lot b.lot then.1 in
    λ i. record { product = record { 0 = product i }; place = record { 0 = place i }; lot = lot i }

pub is_eq_yes : (o : Ordering) → is_eq o ≡ true → o ≡ Equal
is_eq_yes Less h = cc
is_eq_yes Equal h = refl
is_eq_yes Greater h = cc

-- a quant that stands at a spot has it
pub spot_from_is_at : (spot : Spot) (q : Quant) → is_at spot q ≡ true → spot_of q ≡ spot
spot_from_is_at spot q h = sym (spot_cmp_exact spot (spot_of q) (is_eq_yes (spot_cmp spot (spot_of q)) h))

found_cons : (p : Quant → Bool) (P : Quant → Type 0) (q e : Quant) (qs : List Quant) (b : Bool) → p q ≡ b → (p q ≡ true → P q) → P (unwrap_or (find p qs) e) →
    P (unwrap_or (cond b (Some q) (find p qs)) e)
found_cons p P q e qs true is here rest = here is
found_cons p P q e qs false is here rest = rest

-- what holds of the quants that pass, and of the one that stands in where none does, holds of the one that is found
pub found_or : (p : Quant → Bool) (P : Quant → Type 0) (e : Quant) (qs : List Quant) → P e → ((q : Quant) → p q ≡ true → P q) → P (unwrap_or (find p qs) e)
found_or p P e [] none all = none
found_or p P e (q ∷ qs) none all = found_cons p P q e qs (p q) refl (all q) (found_or p P e qs none all)

pub found_in : (p : Quant → Bool) (P : Quant → Type 0) (e : Quant) (qs : List Quant) → P e → All P qs → P (unwrap_or (find p qs) e)
found_in p P e [] none all = none
found_in p P e (q ∷ qs) none all = found_cons p P q e qs (p q) refl (λ h. All-head P q qs all) (found_in p P e qs none (All-tail P q qs all))

-- the quant that a line takes from stands at its source, and the one that it brings to at its destination
pub spot-source_quant : (now : ℤ) (line : Line) (stock : Holdings) → spot_of (source_quant now line stock) ≡ source_spot line
spot-source_quant now line stock = found_or (is_at (source_spot line)) (λ q. spot_of q ≡ source_spot line) (empty_quant stock.next (source_spot line) now line.guarded_from)
    stock.quants refl (spot_from_is_at (source_spot line))

pub spot-destination_quant : (now : ℤ) (line : Line) (source : Quant) (stock : Holdings) → spot_of (destination_quant now line source stock) ≡ destination_spot line
spot-destination_quant now line source stock = found_or (is_at (destination_spot line)) (λ q. spot_of q ≡ destination_spot line)
    (empty_quant stock.next (destination_spot line) (incoming_date now line source) line.guarded_to) stock.quants refl (spot_from_is_at (destination_spot line))
