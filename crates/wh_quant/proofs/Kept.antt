-- What a line makes of a sum over the quants: of each product, and of each spot.
use Rattle.std.proofs.Common.{◌≡◌, ℕ, ℤ, pos, ◌+ℤ◌, ◌-ℤ◌, List, [], ◌∷◌, get_or, Some, Bool, true, false, cond, not, ◌&&◌, ◌||◌, eqb, refl, ◌∙◌, ap, arith}
use Rattle.std.specs.List.{find, filter, All}
use Rattle.std.specs.Option.{unwrap_or}
use Rattle.std.specs.Ordering.{int_eq, int_cmp}
use Rattle.std.specs.FinMap.{int_cmp-IsAntisymmetric}
use Rattle.std.proofs.lemmas.Int.{ints}
use Rattle.std.proofs.lemmas.List.Elements.{All-head, All-tail}
use Rattle.ob_base.specs.declared.id.RecId.{RecId}
use Rattle.wh_quant.specs.declared.quant.Quant.{Quant}
use Rattle.wh_quant.specs.declared.quant.Line.{Line}
use Rattle.wh_quant.specs.declared.spot.Spot.{Spot}
use Rattle.wh_quant.specs.Spots.{spot_of, source_spot, destination_spot, same_spot, is_at, is_touched}
use Rattle.wh_quant.specs.Sums.{total, quantity_for, sum_of, quantity_at, reserved_at, taken_from, released_from, brought_to}
use Rattle.wh_quant.specs.Moves.{Holdings, quants_with, empty_quant, source_quant, lowered, is_left}
use Rattle.wh_quant.specs.Moves.{incoming_date, destination_quant, raised, after_taking, after_line, holdings_after}
use Rattle.wh_quant.proofs.Exact.{is_eq_yes, spot-source_quant, spot-destination_quant}

quants_with_cons : (f : Quant → ℤ) (new e q : Quant) (qs : List Quant) (b : Bool) →
    total f (quants_with new qs) ≡ ((total f qs -ℤ f (unwrap_or (find (is_at (spot_of new)) qs) e)) +ℤ f new) →
    total f (cond b (new ∷ qs) (q ∷ quants_with new qs)) ≡ (((f q +ℤ total f qs) -ℤ f (unwrap_or (cond b (Some q) (find (is_at (spot_of new)) qs)) e)) +ℤ f new)
quants_with_cons f new e q qs true rest = omega (arith, ints)
quants_with_cons f new e q qs false rest = omega (arith, ints)

-- a quant that is put in counts in place of the one of its spot, or beside the others where e counts nothing
total-quants_with : (f : Quant → ℤ) (new e : Quant) (qs : List Quant) → f e ≡ pos 0 → total f (quants_with new qs) ≡ ((total f qs -ℤ f (unwrap_or (find (is_at (spot_of new)) qs) e)) +ℤ f new)
total-quants_with f new e [] none = omega (arith, ints)
total-quants_with f new e (q ∷ qs) none = quants_with_cons f new e q qs (is_at (spot_of new) q) (total-quants_with f new e qs none)

around : (t x a : ℤ) → ((t -ℤ x) +ℤ (x -ℤ a)) ≡ (t -ℤ a)
around t x a = omega (arith, ints)

beside : (t x a : ℤ) → ((t -ℤ x) +ℤ (x +ℤ a)) ≡ (t +ℤ a)
beside t x a = omega (arith, ints)

regroup : (t a b c d : ℤ) → ((((t -ℤ a) +ℤ b) -ℤ c) +ℤ d) ≡ ((t -ℤ (a +ℤ c)) +ℤ (b +ℤ d))
regroup t a b c d = omega (arith, ints)

nothing_gone : (t : ℤ) → t ≡ ((t -ℤ pos 0) +ℤ pos 0)
nothing_gone t = omega (arith, ints)

back : (t a : ℤ) → ((t -ℤ a) +ℤ a) ≡ t
back t a = omega (arith, ints)

-- a number of quants that a line lowers at its source and raises at its destination
module _ (f : Quant → ℤ) (from to : Line → ℤ)
    (none : (id : ℕ) (spot : Spot) (in_date : ℤ) (guarded : Bool) → f (empty_quant id spot in_date guarded) ≡ pos 0)
    (less : (line : Line) (q : Quant) → spot_of q ≡ source_spot line → f (lowered line q) ≡ (f q -ℤ from line))
    (more : (line : Line) (source q : Quant) → spot_of q ≡ destination_spot line → f (raised line source q) ≡ (f q +ℤ to line)) where
  total-after_taking : (now : ℤ) (line : Line) (stock : Holdings) → total f (after_taking now line stock).quants ≡ (total f stock.quants -ℤ from line)
  total-after_taking now line stock =
      let e = empty_quant stock.next (source_spot line) now line.guarded_from in
      let source = source_quant now line stock in
      let put : total f (quants_with (lowered line source) stock.quants) ≡
      ((total f stock.quants -ℤ f (unwrap_or (find (is_at (spot_of (lowered line source))) stock.quants) e)) +ℤ f (lowered line source)) =
      total-quants_with f (lowered line source) e stock.quants (none stock.next (source_spot line) now line.guarded_from) in
      let same : f (unwrap_or (find (is_at (spot_of (lowered line source))) stock.quants) e) ≡ f source =
      ap (λ spot. f (unwrap_or (find (is_at spot) stock.quants) e)) (spot-source_quant now line stock) in
      let low : f (lowered line source) ≡ (f source -ℤ from line) = less line source (spot-source_quant now line stock) in
      put ∙ rw (same, low) (around (total f stock.quants) (f source) (from line))

  total-after_line : (now : ℤ) (stock : Holdings) (line : Line) → total f (after_line now stock line).quants ≡ ((total f stock.quants -ℤ from line) +ℤ to line)
  total-after_line now stock line =
      let source = source_quant now line stock in
      let taken = after_taking now line stock in
      let e = empty_quant taken.next (destination_spot line) (incoming_date now line source) line.guarded_to in
      let there = destination_quant now line source taken in
      let put : total f (quants_with (raised line source there) taken.quants) ≡
      ((total f taken.quants -ℤ f (unwrap_or (find (is_at (spot_of (raised line source there))) taken.quants) e)) +ℤ f (raised line source there)) =
      total-quants_with f (raised line source there) e taken.quants (none taken.next (destination_spot line) (incoming_date now line source) line.guarded_to) in
      let same : f (unwrap_or (find (is_at (spot_of (raised line source there))) taken.quants) e) ≡ f there =
      ap (λ spot. f (unwrap_or (find (is_at spot) taken.quants) e)) (spot-destination_quant now line source taken) in
      let high : f (raised line source there) ≡ (f there +ℤ to line) = more line source there (spot-destination_quant now line source taken) in
      put ∙ rw (same, high) (beside (total f taken.quants) (f there) (to line)) ∙ ap (λ t. t +ℤ to line) (total-after_taking now line stock)

  pub total-holdings_after : (now : ℤ) (stock : Holdings) (lines : List Line) → total f (holdings_after now stock lines).quants ≡ ((total f stock.quants -ℤ total from lines) +ℤ total to lines)
  total-holdings_after now stock [] = nothing_gone (total f stock.quants)
  total-holdings_after now stock (line ∷ lines) =
      total-holdings_after now (after_line now stock line) lines
      ∙ ap (λ t. (t -ℤ total from lines) +ℤ total to lines) (total-after_line now stock line)
      ∙ regroup (total f stock.quants) (from line) (to line) (total from lines) (total to lines)

less_for : (b : Bool) (x a : ℤ) → cond b (x -ℤ a) (pos 0) ≡ (cond b x (pos 0) -ℤ cond b a (pos 0))
less_for true x a = refl
less_for false x a = omega (arith, ints)

more_for : (b : Bool) (x a : ℤ) → cond b (x +ℤ a) (pos 0) ≡ (cond b x (pos 0) +ℤ cond b a (pos 0))
more_for true x a = refl
more_for false x a = omega (arith, ints)

nothing_for : (b : Bool) → cond b (pos 0) (pos 0) ≡ pos 0
nothing_for true = refl
nothing_for false = refl

-- ---- a product

-- what a line's amount counts for a product
abbrev amount_for : RecId → Line → ℤ
amount_for product line = cond (eqb line.product.0 product.0) line.amount (pos 0)

pub sum-holdings_after : (product : RecId) (now : ℤ) (stock : Holdings) (lines : List Line) → sum_of product (holdings_after now stock lines).quants ≡ sum_of product stock.quants
sum-holdings_after product now stock lines =
    total-holdings_after (quantity_for product) (amount_for product) (amount_for product)
    (λ id spot in_date guarded. nothing_for (eqb spot.product.0 product.0))
    (λ line q at. less_for (eqb q.product.0 product.0) q.quantity line.amount
    ∙ ap (λ (s : Spot). quantity_for product q -ℤ cond (eqb s.product.0 product.0) line.amount (pos 0)) at)
    (λ line source q at. more_for (eqb q.product.0 product.0) q.quantity line.amount
    ∙ ap (λ (s : Spot). quantity_for product q +ℤ cond (eqb s.product.0 product.0) line.amount (pos 0)) at)
    now stock lines
    ∙ back (sum_of product stock.quants) (total (amount_for product) lines)

-- ---- a spot

-- a quant's quantity, and what is reserved of it, where it stands at a spot
abbrev pub quantity_there : Spot → Quant → ℤ
quantity_there spot q = cond (is_at spot q) q.quantity (pos 0)

abbrev pub reserved_there : Spot → Quant → ℤ
reserved_there spot q = cond (is_at spot q) q.reserved (pos 0)

pub quantity_at-holdings_after : (spot : Spot) (now : ℤ) (stock : Holdings) (lines : List Line) →
    quantity_at spot (holdings_after now stock lines).quants ≡ ((quantity_at spot stock.quants -ℤ taken_from spot lines) +ℤ brought_to spot lines)
quantity_at-holdings_after spot =
    total-holdings_after (quantity_there spot) (λ line. cond (same_spot spot (source_spot line)) line.amount (pos 0)) (λ line. cond (same_spot spot (destination_spot line)) line.amount (pos 0))
    (λ id at in_date guarded. nothing_for (same_spot spot at))
    (λ line q at. less_for (is_at spot q) q.quantity line.amount ∙ ap (λ (s : Spot). quantity_there spot q -ℤ cond (same_spot spot s) line.amount (pos 0)) at)
    (λ line source q at. more_for (is_at spot q) q.quantity line.amount ∙ ap (λ (s : Spot). quantity_there spot q +ℤ cond (same_spot spot s) line.amount (pos 0)) at)

released_for : (g b : Bool) (x a : ℤ) → cond b (cond g (x -ℤ a) x) (pos 0) ≡ (cond b x (pos 0) -ℤ cond (g && b) a (pos 0))
released_for true true x a = refl
released_for true false x a = omega (arith, ints)
released_for false true x a = omega (arith, ints)
released_for false false x a = omega (arith, ints)

no_more : (x : ℤ) → x ≡ (x +ℤ pos 0)
no_more x = omega (arith, ints)

nothing_added : (x : ℤ) → (x +ℤ pos 0) ≡ x
nothing_added x = omega (arith, ints)

total-nothing : (lines : List Line) → total (λ (line : Line). pos 0) lines ≡ pos 0
total-nothing [] = refl
total-nothing (line ∷ lines) = let rest = total-nothing lines in omega (arith, ints)

pub reserved_at-holdings_after : (spot : Spot) (now : ℤ) (stock : Holdings) (lines : List Line) →
    reserved_at spot (holdings_after now stock lines).quants ≡ (reserved_at spot stock.quants -ℤ released_from spot lines)
reserved_at-holdings_after spot now stock lines =
    total-holdings_after (reserved_there spot) (λ line. cond (line.guarded_from && same_spot spot (source_spot line)) line.amount (pos 0)) (λ line. pos 0)
    (λ id at in_date guarded. nothing_for (same_spot spot at))
    (λ line q at. released_for line.guarded_from (is_at spot q) q.reserved line.amount
    ∙ ap (λ (s : Spot). reserved_there spot q -ℤ cond (line.guarded_from && same_spot spot s) line.amount (pos 0)) at)
    (λ line source q at. no_more (reserved_there spot q))
    now stock lines
    ∙ rw (total-nothing lines) (nothing_added (reserved_at spot stock.quants -ℤ released_from spot lines))

-- ---- what is left out

filter_cons : (f : Quant → ℤ) (p : Quant → Bool) (q : Quant) (qs : List Quant) (b : Bool) → (b ≡ false → f q ≡ pos 0) → total f (filter p qs) ≡ total f qs →
    total f (cond b (q ∷ filter p qs) (filter p qs)) ≡ (f q +ℤ total f qs)
filter_cons f p q qs true none rest = rw rest refl
filter_cons f p q qs false none rest = let nothing : f q ≡ pos 0 = none refl in rest ∙ rw nothing (omega (arith, ints))

-- a sum stays where those that are left out count nothing
pub total-filter : (f : Quant → ℤ) (p : Quant → Bool) (qs : List Quant) → All (λ q. p q ≡ false → f q ≡ pos 0) qs → total f (filter p qs) ≡ total f qs
total-filter f p [] none = refl
total-filter f p (q ∷ qs) none =
    filter_cons f p q qs (p q) (All-head (λ q. p q ≡ false → f q ≡ pos 0) q qs none)
    (total-filter f p qs (All-tail (λ q. p q ≡ false → f q ≡ pos 0) q qs none))

is_zero : (zero there : Bool) → (not zero || not there) ≡ false → zero ≡ true
is_zero true there h = refl
is_zero false there h = cc

-- what is left out has no quantity
pub quantity-left_out : (lines : List Line) (q : Quant) → is_left lines q ≡ false → q.quantity ≡ pos 0
quantity-left_out lines q h =
    int_cmp-IsAntisymmetric q.quantity (pos 0)
    (is_eq_yes (int_cmp q.quantity (pos 0)) (is_zero (int_eq q.quantity (pos 0)) (is_touched lines (spot_of q)) h))

pub zero_for : (b : Bool) (x : ℤ) → x ≡ pos 0 → cond b x (pos 0) ≡ pos 0
zero_for true x e = e
zero_for false x e = refl

-- and counts nothing for a product, or at a spot
pub sum-left : (product : RecId) (lines : List Line) (qs : List Quant) → sum_of product (filter (is_left lines) qs) ≡ sum_of product qs
sum-left product lines qs = total-filter (quantity_for product) (is_left lines) qs (λ k d within h.
    let q = get_or qs k d in zero_for (eqb q.product.0 product.0) q.quantity (quantity-left_out lines q h))

pub quantity_at-left : (spot : Spot) (lines : List Line) (qs : List Quant) → quantity_at spot (filter (is_left lines) qs) ≡ quantity_at spot qs
quantity_at-left spot lines qs = total-filter (quantity_there spot) (is_left lines) qs (λ k d within h.
    let q = get_or qs k d in zero_for (is_at spot q) q.quantity (quantity-left_out lines q h))
