-- What follows of quants after lines: their sums, their ids, and what covers reservations.
use Rattle.std.proofs.Common.{◌≡◌, ℕ, suc, ℤ, pos, ◌+◌, ◌*◌, ◌<◌, ◌≤◌, ◌≤ℤ◌, ◌+ℤ◌, ◌-ℤ◌, List, [], ◌∷◌, length, map, get_or, Bool, true, false, cond, refl, sym, ◌∙◌, ap, arith}
use Rattle.std.specs.List.{All, AllPairs, filter}
use Rattle.std.proofs.lemmas.Int.{ints}
use Rattle.std.proofs.lemmas.List.{get_or-map, length-map}
use Rattle.std.proofs.lemmas.List.Elements.{All-nil, All-cons, All-head, All-tail, All-weaker, All-filter, All-map}
use Rattle.std.proofs.lemmas.List.Kept.{AllPairs-from_increasing, AllPairs-filter}
use Rattle.std.proofs.lemmas.List.Sorted.{All-permutation}
use Rattle.ob_base.specs.declared.id.RecId.{RecId}
use Rattle.wh_quant.specs.declared.quant.Quant.{Quant}
use Rattle.wh_quant.specs.declared.quant.Line.{Line}
use Rattle.wh_quant.specs.declared.spot.Spot.{Spot}
use Rattle.wh_quant.specs.Spots.{spot_of, source_spot, destination_spot, is_at}
use Rattle.wh_quant.specs.Sums.{sum_of, quantity_for, quantity_at, reserved_at, taken_from, released_from, brought_to, IsCovered, IsFreeOutside}
use Rattle.wh_quant.specs.Moves.{Holdings, RiseById, quants_with, empty_quant, source_quant, lowered, incoming_date, destination_quant}
use Rattle.wh_quant.specs.Moves.{raised, after_taking, destination_after, after_line, holdings_after, Suffices, AllMove, IsMoved, AreGuardedBy, is_left}
use Rattle.wh_quant.proofs.Totals.{total-IsPermutation}
use Rattle.wh_quant.proofs.Starts.{id_of}
use Rattle.wh_quant.proofs.Exact.{found_in, spot-source_quant}
use Rattle.wh_quant.proofs.Kept.{sum-holdings_after, sum-left, quantity_there, reserved_there, quantity_at-holdings_after, reserved_at-holdings_after}
use Rattle.wh_quant.proofs.Kept.{total-filter, quantity-left_out, zero_for, quantity_at-left}
use Rattle.wh_quant.proofs.Order.{InOrder, order-holdings_after}
use Rattle.wh_quant.proofs.Runs.{next-after_line}

module _ (now : ℤ) (next : ℕ) (quants : List Quant) (lines : List Line) (moved : List Quant) (is : IsMoved now next quants lines moved) where
  pub moved_sums : (product : RecId) → sum_of product moved ≡ sum_of product quants
  moved_sums product =
      rw is.left (sum-left product lines (holdings_after now is.start lines).quants)
      ∙ sum-holdings_after product now is.start lines
      ∙ total-IsPermutation (quantity_for product) quants is.start.quants is.starts.same

  pub moved_quantities : (spot : Spot) → quantity_at spot moved ≡ ((quantity_at spot quants -ℤ taken_from spot lines) +ℤ brought_to spot lines)
  moved_quantities spot =
      rw is.left (quantity_at-left spot lines (holdings_after now is.start lines).quants)
      ∙ quantity_at-holdings_after spot now is.start lines
      ∙ ap (λ t. (t -ℤ taken_from spot lines) +ℤ brought_to spot lines) (total-IsPermutation (quantity_there spot) quants is.start.quants is.starts.same)

  start_order : All (λ q. q.id.0 < next) quants → InOrder is.start
  start_order below = record {
    rising = is.starts.rising;
    below = rw is.starts.next_is (All-map (λ id. id < next) id_of is.start.quants (All-permutation (λ q. q.id.0 < next) quants is.start.quants is.starts.same below));
  }

-- a list that rises by id still does with some quants left out
rise_apart : (qs : List Quant) → RiseById qs → AllPairs (λ a b. id_of a < id_of b) qs
rise_apart qs rising i j d before within =
    let far : j < length (map id_of qs) = rw length-map within in
    let near : i < length qs = omega arith in
    let apart = AllPairs-from_increasing (map id_of qs) rising i j 0 before far in
    rw (get_or-map id_of qs i d 0 near, get_or-map id_of qs j d 0 within) at apart

rise_again : (qs : List Quant) → AllPairs (λ a b. id_of a < id_of b) qs → RiseById qs
rise_again [] apart k within = absurd (omega arith)
rise_again (q ∷ qs) apart k within =
    let far : k + 1 < length (q ∷ qs) = omega (arith, length-map (q ∷ qs) id_of) in
    let near : k < length (q ∷ qs) = omega arith in
    rw (get_or-map id_of (q ∷ qs) k q 0 near, get_or-map id_of (q ∷ qs) (k + 1) q 0 far) (apart k (k + 1) q (omega arith) far)

rise-filter : (p : Quant → Bool) (qs : List Quant) → RiseById qs → RiseById (filter p qs)
rise-filter p qs rising = rise_again (filter p qs) (AllPairs-filter (λ a b. id_of a < id_of b) p qs (rise_apart qs rising))

next-holdings_after : (now : ℤ) (stock : Holdings) (lines : List Line) → (holdings_after now stock lines).next ≤ stock.next + 2 * length lines
next-holdings_after now stock [] = omega arith
next-holdings_after now stock (line ∷ lines) =
    let first = next-after_line now stock line in
    let rest = next-holdings_after now (after_line now stock line) lines in
    omega (arith, first, rest)

below_of : (n : ℕ) (qs : List Quant) → All (λ id. id < n) (map id_of qs) → All (λ q. q.id.0 < n) qs
below_of n qs below k d within =
    let far : k < length (map id_of qs) = rw length-map within in
    let found = below k 0 far in
    rw (get_or-map id_of qs k d 0 within) at found

module _ (now : ℤ) (next : ℕ) (quants : List Quant) (lines : List Line) (moved : List Quant) (is : IsMoved now next quants lines moved) (below : All (λ q. q.id.0 < next) quants) where
  after_order : InOrder (holdings_after now is.start lines)
  after_order = order-holdings_after now is.start lines (start_order now next quants lines moved is below)

  pub moved_rising : RiseById moved
  moved_rising = rw is.left (rise-filter (is_left lines) (holdings_after now is.start lines).quants after_order.rising)

  pub moved_ids : All (λ q. q.id.0 < next + 2 * length lines) moved
  moved_ids =
      let bound : (holdings_after now is.start lines).next ≤ next + 2 * length lines = rw (← is.starts.next_is) (next-holdings_after now is.start lines) in
      let all = below_of (holdings_after now is.start lines).next (holdings_after now is.start lines).quants after_order.below in
      rw is.left (All-filter (is_left lines) (λ q. q.id.0 < next + 2 * length lines) (holdings_after now is.start lines).quants
      (All-weaker (λ q. q.id.0 < (holdings_after now is.start lines).next) (λ q. q.id.0 < next + 2 * length lines) (λ q h. omega (arith, h, bound)) (holdings_after now is.start lines).quants all))

-- ---- what covers reservations

fit_cons : (P : Quant → Type 0) (new q : Quant) (qs : List Quant) (b : Bool) → P new → All P (q ∷ qs) → All P (quants_with new qs) → All P (cond b (new ∷ qs) (q ∷ quants_with new qs))
fit_cons P new q qs true fit all rest = All-cons P new qs fit (All-tail P q qs all)
fit_cons P new q qs false fit all rest = All-cons P q (quants_with new qs) (All-head P q qs all) rest

-- what holds of the quants and of the one that is put in
pub All-quants_with : (P : Quant → Type 0) (new : Quant) (qs : List Quant) → P new → All P qs → All P (quants_with new qs)
All-quants_with P new [] fit all = All-cons P new [] fit (All-nil P)
All-quants_with P new (q ∷ qs) fit all = fit_cons P new q qs (is_at (spot_of new) q) fit all (All-quants_with P new qs fit (All-tail P q qs all))

-- a guarded source that suffices stays covered, and another is not guarded
lowered_covered : (line : Line) (q : Quant) (b : Bool) → line.guarded_from ≡ b → q.guarded ≡ b → IsCovered q → Suffices line q → IsCovered (lowered line q)
lowered_covered line q true from guarded covered enough h =
    let had = covered guarded in
    let most = enough from in
    rw from (omega (arith, ints, had.0, had.1, most.0, most.1), omega (arith, ints, had.0, had.1, most.0, most.1))
lowered_covered line q false from guarded covered enough h = absurd (cc (h, guarded))

raised_covered : (line : Line) (source q : Quant) → pos 0 ≤ℤ line.amount → IsCovered q → IsCovered (raised line source q)
raised_covered line source q least covered h =
    let had = covered h in
    (had.0, omega (arith, ints, had.1))

none_covered : (id : ℕ) (spot : Spot) (in_date : ℤ) (guarded : Bool) → IsCovered (empty_quant id spot in_date guarded)
none_covered id spot in_date guarded h = (omega (arith, ints), omega (arith, ints))

-- nothing is reserved where goods are not guarded, and stays so
lowered_free : (line : Line) (q : Quant) (b : Bool) → line.guarded_from ≡ b → q.guarded ≡ b → IsFreeOutside q → Suffices line q → IsFreeOutside (lowered line q)
lowered_free line q true from guarded free enough h = absurd (cc (h, guarded))
lowered_free line q false from guarded free enough h = rw from (free h)

-- what a line keeps of its quants, where the place of each is guarded as told
module _ (C : Quant → Type 0)
    (none : (id : ℕ) (spot : Spot) (in_date : ℤ) (guarded : Bool) → C (empty_quant id spot in_date guarded))
    (low : (line : Line) (q : Quant) (b : Bool) → line.guarded_from ≡ b → q.guarded ≡ b → C q → Suffices line q → C (lowered line q))
    (high : (line : Line) (source q : Quant) → pos 0 ≤ℤ line.amount → C q → C (raised line source q))
    (guards : RecId → Bool) where
  -- a quant of a place that is guarded as told
  abbrev IsFit : Quant → Type 0
  IsFit q = (q.guarded ≡ guards q.place) × C q

  module _ (now : ℤ) (stock : Holdings) (line : Line) (from : line.guarded_from ≡ guards line.from) (to : line.guarded_to ≡ guards line.to)
      (least : pos 0 ≤ℤ line.amount) (enough : Suffices line (source_quant now line stock)) (all : All IsFit stock.quants) where
    fit_source : IsFit (source_quant now line stock)
    fit_source = found_in (is_at (source_spot line)) IsFit (empty_quant stock.next (source_spot line) now line.guarded_from) stock.quants
        (from, none stock.next (source_spot line) now line.guarded_from) all

    fit_lowered : IsFit (lowered line (source_quant now line stock))
    fit_lowered =
        let source = source_quant now line stock in
        let place : source.place ≡ line.from = λ i. (spot-source_quant now line stock i).place in
        let guarded : source.guarded ≡ line.guarded_from = fit_source.0 ∙ ap guards place ∙ sym from in
        (fit_source.0, low line source line.guarded_from refl guarded fit_source.1 enough)

    fit_taken : All IsFit (after_taking now line stock).quants
    fit_taken = All-quants_with IsFit (lowered line (source_quant now line stock)) stock.quants fit_lowered all

    fit-after_line : All IsFit (after_line now stock line).quants
    fit-after_line =
        let source = source_quant now line stock in
        let taken = after_taking now line stock in
        let e = empty_quant taken.next (destination_spot line) (incoming_date now line source) line.guarded_to in
        let there = destination_quant now line source taken in
        let fit : IsFit there = found_in (is_at (destination_spot line)) IsFit e taken.quants
        (to, none taken.next (destination_spot line) (incoming_date now line source) line.guarded_to) fit_taken in
        All-quants_with IsFit (destination_after now line stock) taken.quants (fit.0, high line source there least fit.1) fit_taken

  fit-holdings_after : (now : ℤ) (stock : Holdings) (lines : List Line) →
      All (λ line. (line.guarded_from ≡ guards line.from) × (line.guarded_to ≡ guards line.to)) lines → All (λ line. pos 0 ≤ℤ line.amount) lines →
      AllMove now stock lines (length lines) → All IsFit stock.quants → All IsFit (holdings_after now stock lines).quants
  fit-holdings_after now stock [] told least moves all = all
  fit-holdings_after now stock (line ∷ lines) told least moves all =
      let here = All-head (λ line. (line.guarded_from ≡ guards line.from) × (line.guarded_to ≡ guards line.to)) line lines told in
      let first = fit-after_line now stock line here.0 here.1 (All-head (λ line. pos 0 ≤ℤ line.amount) line lines least) (moves 0 line (omega arith) refl).enough all in
      fit-holdings_after now (after_line now stock line) lines (All-tail (λ line. (line.guarded_from ≡ guards line.from) × (line.guarded_to ≡ guards line.to)) line lines told)
      (All-tail (λ line. pos 0 ≤ℤ line.amount) line lines least)
      (λ k other below at. moves (suc k) other (omega arith) at) first

  -- it holds of all quants after the lines where it held of all before
  pub kept_after : (now : ℤ) (next : ℕ) (quants : List Quant) (lines : List Line) (moved : List Quant) (is : IsMoved now next quants lines moved) →
      AreGuardedBy guards quants lines → All (λ line. pos 0 ≤ℤ line.amount) lines → All C quants → All C (holdings_after now is.start lines).quants
  kept_after now next quants lines moved is told least all =
      let before = All-permutation IsFit quants is.start.quants is.starts.same (λ k d within. (told.0 k d within, all k d within)) in
      let after = fit-holdings_after now is.start lines told.1 least is.each before in
      All-weaker IsFit C (λ q h. h.1) (holdings_after now is.start lines).quants after

none_free : (id : ℕ) (spot : Spot) (in_date : ℤ) (guarded : Bool) → IsFreeOutside (empty_quant id spot in_date guarded)
none_free id spot in_date guarded h = refl

-- what is reserved of a quant without a quantity
none_reserved : (q : Quant) (b : Bool) → q.guarded ≡ b → IsCovered q → IsFreeOutside q → q.quantity ≡ pos 0 → q.reserved ≡ pos 0
none_reserved q true guarded covered free none =
    let had = covered guarded in
    omega (arith, ints, had.0, had.1, none)
none_reserved q false guarded covered free none = free guarded

module _ (now : ℤ) (next : ℕ) (quants : List Quant) (lines : List Line) (moved : List Quant) (is : IsMoved now next quants lines moved) (guards : RecId → Bool)
    (told : AreGuardedBy guards quants lines) (least : All (λ line. pos 0 ≤ℤ line.amount) lines) (covered : All IsCovered quants) where
  all_covered : All IsCovered (holdings_after now is.start lines).quants
  all_covered = kept_after IsCovered none_covered lowered_covered raised_covered guards now next quants lines moved is told least covered

  pub moved_covered : All IsCovered moved
  moved_covered = rw is.left (All-filter (is_left lines) IsCovered (holdings_after now is.start lines).quants all_covered)

  pub moved_reservations : All IsFreeOutside quants → (spot : Spot) → reserved_at spot moved ≡ (reserved_at spot quants -ℤ released_from spot lines)
  moved_reservations free spot =
      let after = (holdings_after now is.start lines).quants in
      let all_free : All IsFreeOutside after =
      kept_after IsFreeOutside none_free lowered_free (λ line source q least free. free) guards now next quants lines moved is told least free in
      let left : reserved_at spot (filter (is_left lines) after) ≡ reserved_at spot after =
      total-filter (reserved_there spot) (is_left lines) after (λ k d within h.
      let q = get_or after k d in
      zero_for (is_at spot q) q.reserved (none_reserved q q.guarded refl (all_covered k d within) (all_free k d within) (quantity-left_out lines q h))) in
      rw is.left left
      ∙ reserved_at-holdings_after spot now is.start lines
      ∙ ap (λ t. t -ℤ released_from spot lines) (total-IsPermutation (reserved_there spot) quants is.start.quants is.starts.same)
