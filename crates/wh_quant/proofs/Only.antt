-- A list in strict order is the only one of its members: so the answers are the only ones.
use Rattle.std.proofs.Common.{◌≡◌, ℕ, zero, suc, ℤ, pos, None, Some, take, cond, ◌+◌, ◌-ℤ◌, ◌<◌, List, [], ◌∷◌, length, get_or, map, Bool, true, false, refl, sym, ◌∙◌, ap, nat_eq, inl, inr, ◌⊎◌, arith}
use Rattle.std.specs.declared.cmp.Ordering.{Ordering}
use Rattle.std.specs.declared.cmp.Ordering.TheVariants.{Less, Equal, Greater}
use Rattle.std.specs.Cmp.{IsTotalOrder}
use Rattle.std.specs.Prelude.{int_lt, slice_get}
use Rattle.std.specs.List.{AllByRecursion as ByRecursion, Contains, IsDistinct, filter}
use Rattle.std.specs.List.Sorted.{IsPermutation, IsStrictlySortedBy}
use Rattle.std.specs.Cmp.Lexicographic.{slice_cmp}
use Rattle.std.specs.FinMap.{nat_cmp-IsAntisymmetric}
use Rattle.std.specs.Ordering.{is_lt, ordering_reverse, nat_cmp, int_cmp, on}
use Rattle.std.proofs.lemmas.Cmp.{tied_itself, on_total, nat_cmp_total, nat_eq_equiv}
use Rattle.std.proofs.lemmas.Int.{ints}
use Rattle.std.proofs.lemmas.List.{get_or-map, length-map}
use Rattle.std.proofs.lemmas.Option.{slice_get_within, same_Some}
use Rattle.std.proofs.lemmas.Bool.{cases_lt}
use Rattle.std.proofs.lemmas.List.Elements.{All-contains, All-from_recursion}
use Rattle.std.proofs.lemmas.List.Sorted.{IsPermutation-sym, IsPermutation-trans, IsPermutation-map, Contains-permutation}
use Rattle.std.proofs.lemmas.Map.Keys.{sorted_head, sorted_tail, sorted_from_all_adjacent, sorted_from_strictly_increasing, Less-from_sorted}
use Rattle.std.proofs.lemmas.Map.Keys.{apart_from_distinct, IsDistinct-head, IsDistinct-tail, IsDistinct-cons, IsDistinct-IsPermutation}
use Rattle.ob_base.specs.declared.id.RecId.{RecId}
use Rattle.wh_quant.specs.declared.quant.Quant.{Quant}
use Rattle.wh_quant.specs.declared.quant.Line.{Line}
use Rattle.wh_quant.specs.declared.quant.LineFault.{LineFault}
use Rattle.wh_quant.specs.declared.quant.LineFault.TheVariants.{Short, Overflow, NoMemory}
use Rattle.wh_quant.specs.declared.stock.Stock.{Stock}
use Rattle.wh_quant.specs.declared.stock.Take.{Take}
use Rattle.wh_quant.specs.declared.stock.Removal.{Removal}
use Rattle.wh_quant.specs.declared.stock.Removal.TheVariants.{Fifo, Lifo, Fefo, Closest}
use Rattle.wh_quant.specs.Takes.{date_cmp, removal_cmp, IsRanked, gifts, takes_from, AreTakes}
use Rattle.wh_quant.specs.Moves.{Holdings, RiseById, IsStart, source_quant, holdings_after, Suffices, FallsShort, MovesGoods, AllMove, is_left}
use Rattle.wh_quant.specs.Moves.{OverflowsAt, IsMoved, IsShortAt, IsOverflowAt, IsFault}
use Rattle.wh_quant.proofs.Removals.{removal_cmp_total}
use Rattle.wh_quant.proofs.Starts.{id_of}
use Rattle.wh_quant.proofs.Exact.{both_equal}

-- the number of a stock's quant
abbrev stock_id : Stock → ℕ
stock_id s = s.quant.0

module _ {X : Type 0} {R : X → X → Ordering} (o : IsTotalOrder R) where
  -- a member is the first one, or one of the others
  member_cases : (x z : X) (xs : List X) → Contains (x ∷ xs) z → (z ≡ x) ⊎ Contains xs z
  member_cases x z xs (zero, within, is) = inl (sym is)
  member_cases x z xs (suc k, within, is) = inr (k, omega arith, is)

  member_first : (x : X) (xs : List X) → Contains (x ∷ xs) x
  member_first x xs = (zero, omega arith, refl)

  member_later : (x z : X) (xs : List X) → Contains xs z → Contains (x ∷ xs) z
  member_later x z xs (k, within, is) = (suc k, omega arith, is)

  -- each later member is above the first
  above_first : (x z : X) (xs : List X) → IsStrictlySortedBy R (x ∷ xs) → Contains xs z → R x z ≡ Less
  above_first x z xs sorted there = All-contains (λ y. R x y ≡ Less) xs z (All-from_recursion (λ y. R x y ≡ Less) xs (sorted_head R x xs sorted)) there

  not_less : (x : X) → R x x ≡ Less → ⊥
  not_less x h = let tied = tied_itself o x in let no : ◌≡◌ {A = Ordering} Less Equal = sym h ∙ tied in cc no

  -- of two strictly sorted lists with the same members the firsts are one
  same_first : (x y : X) (xs ys : List X) → IsStrictlySortedBy R (x ∷ xs) → IsStrictlySortedBy R (y ∷ ys) → Contains (y ∷ ys) x → Contains (x ∷ xs) y → x ≡ y
  same_first x y xs ys up up' there back =
      elim (member_cases y x ys there) [
        | inl e ↦ e
        | inr below ↦ elim (member_cases x y xs back) [
          | inl e ↦ sym e
          | inr above ↦ absurd (not_less x (o.trans x y x (above_first x y xs up above) (above_first y x ys up' below)))
        ]
      ]

  rest_of : (x z : X) (xs ys : List X) → IsStrictlySortedBy R (x ∷ xs) → Contains xs z → Contains (x ∷ ys) z → Contains ys z
  rest_of x z xs ys up there among =
      elim (member_cases x z ys among) [
        | inl e ↦ absurd (not_less x (rw e at (above_first x z xs up there)))
        | inr later ↦ later
      ]

  pub same_sorted : (xs ys : List X) → IsStrictlySortedBy R xs → IsStrictlySortedBy R ys → ((z : X) → Contains xs z → Contains ys z) → ((z : X) → Contains ys z → Contains xs z) → xs ≡ ys
  same_sorted [] [] up up' there back = refl
  same_sorted [] (y ∷ ys) up up' there back = let among = back y (member_first y ys) in absurd (omega (arith, among.1))
  same_sorted (x ∷ xs) [] up up' there back = let among = there x (member_first x xs) in absurd (omega (arith, among.1))
  same_sorted (x ∷ xs) (y ∷ ys) up up' there back =
      let first : x ≡ y = same_first x y xs ys up up' (there x (member_first x xs)) (back y (member_first y ys)) in
      let moved : IsStrictlySortedBy R (x ∷ ys) = rw first up' in
      let rest : xs ≡ ys = same_sorted xs ys (sorted_tail R x xs up) (sorted_tail R x ys moved)
      (λ z h. rest_of x z xs ys up h (rw first (there z (member_later x z xs h))))
      (λ z h. rest_of x z ys xs moved h (back z (member_later y z ys h))) in
      cc

  pub same_permutation : (xs ys : List X) → IsStrictlySortedBy R xs → IsStrictlySortedBy R ys → IsPermutation xs ys → xs ≡ ys
  same_permutation xs ys up up' moved = same_sorted xs ys up up' (λ z. Contains-permutation xs ys z moved) (λ z. Contains-permutation ys xs z (IsPermutation-sym xs ys moved))

-- ---- candidates in order

-- stocks that tie in the whole order have one id
tied_ids : (order : Removal) (a b : Stock) → removal_cmp order a b ≡ Equal → stock_id a ≡ stock_id b
tied_ids Fifo a b e = nat_cmp-IsAntisymmetric (stock_id a) (stock_id b) (both_equal (int_cmp a.in_date b.in_date) _ e).1
tied_ids Lifo a b e = sym (nat_cmp-IsAntisymmetric (stock_id b) (stock_id a) (both_equal (int_cmp b.in_date a.in_date) _ e).1)
tied_ids Fefo a b e = nat_cmp-IsAntisymmetric (stock_id a) (stock_id b) (both_equal (int_cmp a.in_date b.in_date) _ (both_equal (date_cmp a.removal b.removal) _ e).1).1
tied_ids Closest a b e = nat_cmp-IsAntisymmetric (stock_id a) (stock_id b) (both_equal (slice_cmp nat_cmp a.place b.place) _ e).1

module _ {X : Type 0} (id_in : X → ℕ) where
  kept_apart : (P : ℕ → Type 0) (b : Bool) (x : X) (xs : List X) → P (id_in x) → ByRecursion P (map id_in xs) → ByRecursion P (map id_in (cond b (x ∷ xs) xs))
  kept_apart P true x xs here rest = (here, rest)
  kept_apart P false x xs here rest = rest

  all-filter : (P : ℕ → Type 0) (p : X → Bool) (xs : List X) → ByRecursion P (map id_in xs) → ByRecursion P (map id_in (filter p xs))
  all-filter P p [] all = all
  all-filter P p (x ∷ xs) all = kept_apart P (p x) x (filter p xs) all.0 (all-filter P p xs all.1)

  distinct_cons : (b : Bool) (x : X) (xs : List X) → ByRecursion (λ id. nat_eq (id_in x) id ≡ false) (map id_in xs) → IsDistinct nat_eq (map id_in xs) →
      IsDistinct nat_eq (map id_in (cond b (x ∷ xs) xs))
  distinct_cons true x xs apart rest = IsDistinct-cons nat_eq (id_in x) (map id_in xs) apart rest
  distinct_cons false x xs apart rest = rest

  -- what a test keeps of a list whose ids differ has ids that differ
  distinct-filter : (p : X → Bool) (xs : List X) → IsDistinct nat_eq (map id_in xs) → IsDistinct nat_eq (map id_in (filter p xs))
  distinct-filter p [] distinct = distinct
  distinct-filter p (x ∷ xs) distinct =
      distinct_cons (p x) x (filter p xs)
      (all-filter (λ id. nat_eq (id_in x) id ≡ false) p xs (IsDistinct-head nat_eq (id_in x) (map id_in xs) distinct))
      (distinct-filter p xs (IsDistinct-tail nat_eq (id_in x) (map id_in xs) distinct))

-- the number of the quant that a take is of
abbrev take_id : Take → ℕ
take_id t = t.quant.0

-- each stock gives in its own name
gift_ids : (want : ℤ) (ranked : List Stock) → map take_id (gifts want ranked) ≡ map stock_id ranked
gift_ids want [] = refl
gift_ids want (s ∷ rest) = ap (λ ids. stock_id s ∷ ids) (gift_ids (want -ℤ s.free) rest)

-- a stock, where a list has none
abbrev nothing : Stock
nothing = record { quant = record { 0 = 0 }; free = pos 0; in_date = pos 0; removal = None; place = [] }

less_or_tied : (r s : Ordering) → s ≡ ordering_reverse r → is_lt r ≡ false → (r ≡ Equal → ⊥) → s ≡ Less
less_or_tied Less s e h apart = cc
less_or_tied Equal s e h apart = absurd (apart refl)
less_or_tied Greater s e h apart = e

module _ (order : Removal) (stocks : List Stock) (distinct : IsDistinct nat_eq (map stock_id stocks)) where
  ranked_apart : (ranked : List Stock) → IsRanked order stocks ranked → IsDistinct nat_eq (map stock_id ranked)
  ranked_apart ranked is =
      let candidates = filter (λ s. int_lt (pos 0) s.free) stocks in
      IsDistinct-IsPermutation nat_eq nat_eq_equiv.symm (map stock_id candidates) (map stock_id ranked)
      (IsPermutation-map stock_id candidates ranked is.same) (distinct-filter stock_id (λ s. int_lt (pos 0) s.free) stocks distinct)

  ranked_strictly : (ranked : List Stock) → IsRanked order stocks ranked → IsStrictlySortedBy (removal_cmp order) ranked
  ranked_strictly ranked is =
      let ids = ranked_apart ranked is in
      sorted_from_all_adjacent (removal_cmp_total order) ranked nothing (λ k within.
      less_or_tied (removal_cmp order (get_or ranked (k + 1) nothing) (get_or ranked k nothing)) _ ((removal_cmp_total order).antisymm _ _) (is.sorted k nothing (omega arith) within)
      (λ tied. let far : k + 1 < length (map stock_id ranked) = rw length-map within in
      let apart = apart_from_distinct nat_eq (map stock_id ranked) k (k + 1) 0 ids (omega arith) far in
      let one : get_or (map stock_id ranked) (k + 1) 0 ≡ get_or (map stock_id ranked) k 0 = get_or-map stock_id ranked (k + 1) nothing 0 within ∙ tied_ids order _ _ tied ∙ sym
      (get_or-map stock_id ranked k nothing 0 (omega arith)) in
      let same : nat_eq (get_or (map stock_id ranked) k 0) (get_or (map stock_id ranked) (k + 1) 0) ≡ true = rw one (nat_eq_equiv.refl (get_or (map stock_id ranked) k 0)) in
      cc))

  ranked_only : (a b : List Stock) → IsRanked order stocks a → IsRanked order stocks b → a ≡ b
  ranked_only a b is is' = same_permutation (removal_cmp_total order) a b (ranked_strictly a is) (ranked_strictly b is') (IsPermutation-trans a _ b (IsPermutation-sym _ a is.same) is'.same)

  -- where ids differ there is one list of takes
  pub taken_only : (want : ℤ) (a b : List Take) → AreTakes order stocks want a → AreTakes order stocks want b → a ≡ b
  taken_only want a b (ranked, is, e) (ranked', is', e') = e ∙ ap (takes_from want) (ranked_only ranked ranked' is is') ∙ sym e'

  -- and no two of them are of one quant
  pub takes_apart : (want : ℤ) (ranked : List Stock) → IsRanked order stocks ranked → IsDistinct nat_eq (map take_id (takes_from want ranked))
  takes_apart want ranked is =
      distinct-filter take_id (λ t. int_lt (pos 0) t.amount) (gifts want ranked) (rw (gift_ids want ranked) (ranked_apart ranked is))

-- ---- quants by id

-- a quant, where a list has none
abbrev no_quant : Quant
no_quant = record { id = record { 0 = 0 }; product = record { 0 = 0 }; place = record { 0 = 0 }; lot = None; quantity = pos 0; reserved = pos 0; in_date = pos 0; guarded = false }

rise_strictly : (qs : List Quant) → RiseById qs → IsStrictlySortedBy (on id_of nat_cmp) qs
rise_strictly qs rising =
    sorted_from_all_adjacent (on_total id_of nat_cmp_total) qs no_quant (λ k within.
    let far : k + 1 < length (map id_of qs) = rw length-map within in
    let less = Less-from_sorted nat_cmp (map id_of qs) k (k + 1) 0 (sorted_from_strictly_increasing (map id_of qs) rising) (omega arith) far in
    rw (get_or-map id_of qs k no_quant 0 (omega arith), get_or-map id_of qs (k + 1) no_quant 0 within) at less)

start_only : (quants : List Quant) (next : ℕ) (a b : Holdings) → IsStart quants next a → IsStart quants next b → a ≡ b
start_only quants next a b is is' =
    let lists : a.quants ≡ b.quants = same_permutation (on_total id_of nat_cmp_total) a.quants b.quants (rise_strictly a.quants is.rising) (rise_strictly b.quants is'.rising)
    (IsPermutation-trans a.quants quants b.quants (IsPermutation-sym quants a.quants is.same) is'.same) in
    λ i. record { quants = lists i; next = (is.next_is ∙ sym is'.next_is) i }

-- there is one list of quants after lines
pub moved_only : (now : ℤ) (next : ℕ) (quants : List Quant) (lines : List Line) (a b : List Quant) → IsMoved now next quants lines a → IsMoved now next quants lines b → a ≡ b
moved_only now next quants lines a b is is' =
    is.left ∙ ap (λ start. filter (is_left lines) (holdings_after now start lines).quants) (start_only quants next is.start is'.start is.starts is'.starts) ∙ sym is'.left

-- ---- faults

-- a line of this number that doesn't move its goods, where those before it do
record Stops (now : ℤ) (start : Holdings) (lines : List Line) (number : ℕ) : Type 0 where
  before : AllMove now start lines number
  line : Line
  is : slice_get lines number ≡ Some line
  stops : MovesGoods now line (holdings_after now start (take number lines)) → ⊥

not_both : (line : Line) (source : Quant) → FallsShort line source → Suffices line source → ⊥
not_both line source lacks enough =
    let most = enough lacks.0 in
    elim lacks.1 [ inl h ↦ absurd (omega (arith, ints, h, most.0)) | inr h ↦ absurd (omega (arith, ints, h, most.1)) ]

not_within : (now : ℤ) (line : Line) (stock : Holdings) (q : RecId) → OverflowsAt now line stock q → MovesGoods now line stock → ⊥
not_within now line stock q (inl over) moves = over.0 moves.source
not_within now line stock q (inr over) moves = over.1 moves.destination

-- of a line one quant is the first that leaves 64 bits
one_overflows : (now : ℤ) (line : Line) (stock : Holdings) (p q : RecId) → OverflowsAt now line stock p → OverflowsAt now line stock q → p ≡ q
one_overflows now line stock p q (inl a) (inl b) = a.1 ∙ sym b.1
one_overflows now line stock p q (inl a) (inr b) = absurd (a.0 b.0)
one_overflows now line stock p q (inr a) (inl b) = absurd (b.0 a.0)
one_overflows now line stock p q (inr a) (inr b) = a.2 ∙ sym b.2

module _ (now : ℤ) (next : ℕ) (quants : List Quant) (lines : List Line) where
  short_stops : (i : ℕ) (q : RecId) (is : IsShortAt now next quants lines i q) → Stops now is.start lines i
  short_stops i q is = record {
    before = is.before;
    line = is.line;
    is = is.is;
    stops = λ moves. not_both is.line (source_quant now is.line (holdings_after now is.start (take i lines))) is.short moves.enough;
  }

  overflow_stops : (i : ℕ) (q : RecId) (is : IsOverflowAt now next quants lines i q) → Stops now is.start lines i
  overflow_stops i q is = record {
    before = is.before;
    line = is.line;
    is = is.is;
    stops = not_within now is.line (holdings_after now is.start (take i lines)) q is.overflows;
  }

  not_before : (start : Holdings) (i j : ℕ) → Stops now start lines i → Stops now start lines j → i < j → ⊥
  not_before start i j a b h = a.stops (b.before i a.line h a.is)

  stops_once : (start start' : Holdings) (i j : ℕ) → start ≡ start' → Stops now start lines i → Stops now start' lines j → i ≡ j
  stops_once start start' i j same a b' =
      let b : Stops now start lines j = rw same b' in
      elim (cases_lt i j) [
        | inl h ↦ absurd (not_before start i j a b h)
        | inr h ↦ elim (cases_lt j i) [
          | inl k ↦ absurd (not_before start j i b a k)
          | inr k ↦ omega arith
        ]
      ]

  -- lists that are moved have no line that stops
  moves_all : (moved : List Quant) (start : Holdings) (i : ℕ) (is : IsMoved now next quants lines moved) → start ≡ is.start → Stops now start lines i → ⊥
  moves_all moved start i is same a' =
      let a : Stops now is.start lines i = rw (sym same) a' in
      a.stops (is.each i a.line (slice_get_within lines i a.line a.is) a.is)

  -- where lists are moved no line has a fault
  pub moved_without_fault : (moved : List Quant) (fault : LineFault) → IsMoved now next quants lines moved → IsFault now next quants lines fault → ⊥
  moved_without_fault moved NoMemory is h = h
  moved_without_fault moved (Short i q) is h = moves_all moved h.start i is (start_only quants next h.start is.start h.starts is.starts) (short_stops i q h)
  moved_without_fault moved (Overflow i q) is h = moves_all moved h.start i is (start_only quants next h.start is.start h.starts is.starts) (overflow_stops i q h)

  same_line : (i j : ℕ) (a b : Line) → i ≡ j → slice_get lines i ≡ Some a → slice_get lines j ≡ Some b → a ≡ b
  same_line i j a b e at at' = same_Some a b (sym at ∙ ap (slice_get lines) e ∙ at')

  short_once : (i j : ℕ) (p q : RecId) → IsShortAt now next quants lines i p → IsShortAt now next quants lines j q → ◌≡◌ {A = LineFault} (Short i p) (Short j q)
  short_once i j p q a b =
      let start : a.start ≡ b.start = start_only quants next a.start b.start a.starts b.starts in
      let number : i ≡ j = stops_once a.start b.start i j start (short_stops i p a) (short_stops j q b) in
      let line : a.line ≡ b.line = same_line i j a.line b.line number a.is b.is in
      let quant : p ≡ q = a.source ∙ rw (start, line, number) (sym b.source) in
      cc

  overflow_once : (i j : ℕ) (p q : RecId) → IsOverflowAt now next quants lines i p → IsOverflowAt now next quants lines j q → ◌≡◌ {A = LineFault} (Overflow i p) (Overflow j q)
  overflow_once i j p q a b =
      let start : a.start ≡ b.start = start_only quants next a.start b.start a.starts b.starts in
      let number : i ≡ j = stops_once a.start b.start i j start (overflow_stops i p a) (overflow_stops j q b) in
      let line : a.line ≡ b.line = same_line i j a.line b.line number a.is b.is in
      let over : OverflowsAt now b.line (holdings_after now b.start (take j lines)) p = rw (sym start, sym line, sym number) a.overflows in
      let quant : p ≡ q = one_overflows now b.line (holdings_after now b.start (take j lines)) p q over b.overflows in
      cc

  short_or_overflow : (i j : ℕ) (p q : RecId) → IsShortAt now next quants lines i p → IsOverflowAt now next quants lines j q → ⊥
  short_or_overflow i j p q a b =
      let start : a.start ≡ b.start = start_only quants next a.start b.start a.starts b.starts in
      let number : i ≡ j = stops_once a.start b.start i j start (short_stops i p a) (overflow_stops j q b) in
      let line : a.line ≡ b.line = same_line i j a.line b.line number a.is b.is in
      not_both b.line (source_quant now b.line (holdings_after now b.start (take j lines))) (rw (sym start, sym line, sym number) a.short) b.enough

  -- there is one fault
  pub fault_only : (a b : LineFault) → IsFault now next quants lines a → IsFault now next quants lines b → a ≡ b
  fault_only NoMemory b h k = absurd h
  fault_only (Short i p) NoMemory h k = absurd k
  fault_only (Short i p) (Short j q) h k = short_once i j p q h k
  fault_only (Short i p) (Overflow j q) h k = absurd (short_or_overflow i j p q h k)
  fault_only (Overflow i p) NoMemory h k = absurd k
  fault_only (Overflow i p) (Short j q) h k = absurd (short_or_overflow j i q p k h)
  fault_only (Overflow i p) (Overflow j q) h k = overflow_once i j p q h k
