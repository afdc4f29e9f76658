-- What lines of goods that move make of quants, one line after the other.
use Rattle.std.specs.Prelude.{◌≡◌, ℕ, ℤ, pos, ◌+◌, ◌<◌, ◌+ℤ◌, ◌-ℤ◌, ◌<ℤ◌, ◌≤ℤ◌, ◌⊎◌, not, ◌||◌, Bool, true}
use Rattle.std.specs.Prelude.{if◌then◌else◌, List, [], ◌∷◌, filter, find, fold, take, map, length, slice_get, All, IsPermutation, Some, unwrap_or, is_some, FitsSigned}
use Rattle.std.specs.Int.{int_min, w64}
use Rattle.std.specs.Ordering.{int_eq}
use Rattle.std.specs.List.Sorted.{IsStrictlyIncreasing}
use Rattle.ob_base.specs.declared.id.RecId.{RecId}
use Rattle.wh_quant.specs.declared.quant.Quant.{Quant}
use Rattle.wh_quant.specs.declared.quant.Line.{Line}
use Rattle.wh_quant.specs.declared.quant.LineFault.{LineFault}
use Rattle.wh_quant.specs.declared.quant.LineFault.TheVariants.{Short, Overflow}
use Rattle.wh_quant.specs.declared.spot.Spot.{Spot}
use Rattle.wh_quant.specs.Spots.{spot_of, source_spot, destination_spot, is_at, is_touched}

-- quants that rise by id, and the id of the next new one
pub record Holdings : Type 0 where
  pub quants : List Quant
  pub next : ℕ

-- the ids of quants, each below the next
abbrev pub RiseById : List Quant → Type 0
RiseById quants = IsStrictlyIncreasing (map (λ q. q.id.0) quants)

-- the quants that a call is handed, by id, with the next id
pub record IsStart (quants : List Quant) (next : ℕ) (start : Holdings) : Type 0 where
  pub same : IsPermutation quants start.quants
  pub rising : RiseById start.quants
  pub next_is : start.next ≡ next

-- the quant in place of the first of its spot, or at the end where its spot has none
abbrev pub quants_with : Quant → List Quant → List Quant
quants_with new [] = new ∷ []
quants_with new (q ∷ quants) = if is_at (spot_of new) q then new ∷ quants else q ∷ quants_with new quants

-- the holdings with the quant in place of the one of least id at its spot, or with it as a new one
abbrev pub with_quant : Quant → Holdings → Holdings
with_quant q stock = record {
  quants = quants_with q stock.quants;
  next = if is_some (find (is_at (spot_of q)) stock.quants) then stock.next else stock.next + 1;
}

-- a new quant at a spot, with nothing in it yet
abbrev pub empty_quant : ℕ → Spot → ℤ → Bool → Quant
empty_quant id spot in_date guarded = record {
  id = record { 0 = id };
  product = spot.product;
  place = spot.place;
  lot = spot.lot;
  quantity = pos 0;
  reserved = pos 0;
  in_date = in_date;
  guarded = guarded;
}

-- the quant that a line takes from: that of least id at its source, or a new one of this moment
abbrev pub source_quant : ℤ → Line → Holdings → Quant
source_quant now line stock = unwrap_or (find (is_at (source_spot line)) stock.quants) (empty_quant stock.next (source_spot line) now line.guarded_from)

-- the quant with a line's amount gone, and given back from what was reserved in a guarded place
abbrev pub lowered : Line → Quant → Quant
lowered line q = record q {
  quantity = q.quantity -ℤ line.amount;
  reserved = if line.guarded_from then q.reserved -ℤ line.amount else q.reserved;
}

-- the in_date of goods that come in: that of their source where it is guarded, else this moment
abbrev pub incoming_date : ℤ → Line → Quant → ℤ
incoming_date now line source = if line.guarded_from then source.in_date else now

-- the quant that a line brings its goods to: that of least id at its destination, or a new one
abbrev pub destination_quant : ℤ → Line → Quant → Holdings → Quant
destination_quant now line source stock = unwrap_or (find (is_at (destination_spot line)) stock.quants) (empty_quant stock.next (destination_spot line) (incoming_date now line source) line.guarded_to)

-- the quant with a line's amount more; goods from a guarded source bring their in_date where it is the lesser
abbrev pub raised : Line → Quant → Quant → Quant
raised line source q = record q {
  quantity = q.quantity +ℤ line.amount;
  in_date = if line.guarded_from then int_min source.in_date q.in_date else q.in_date;
}

-- the holdings with the goods of a line taken from their source
abbrev pub after_taking : ℤ → Line → Holdings → Holdings
after_taking now line stock = with_quant (lowered line (source_quant now line stock)) stock

-- the quant that a line has brought its goods to
abbrev pub destination_after : ℤ → Line → Holdings → Quant
destination_after now line stock = raised line (source_quant now line stock) (destination_quant now line (source_quant now line stock) (after_taking now line stock))

-- the holdings after a line
abbrev pub after_line : ℤ → Holdings → Line → Holdings
after_line now stock line = with_quant (destination_after now line stock) (after_taking now line stock)

-- the holdings after lines, one after the other
abbrev pub holdings_after : ℤ → Holdings → List Line → Holdings
holdings_after now = fold (after_line now)

-- what is at a line's source suffices: in a guarded place the line takes no more than is there and reserved
abbrev pub Suffices : Line → Quant → Type 0
Suffices line source = line.guarded_from ≡ true → (line.amount ≤ℤ source.quantity) × (line.amount ≤ℤ source.reserved)

-- it doesn't: the place is guarded, and the line takes more than is there or than is reserved
abbrev pub FallsShort : Line → Quant → Type 0
FallsShort line source = (line.guarded_from ≡ true) × ((source.quantity <ℤ line.amount) ⊎ (source.reserved <ℤ line.amount))

-- a quant's numbers are within 64 bits
abbrev pub Fits64 : Quant → Type 0
Fits64 q = FitsSigned w64 q.quantity × FitsSigned w64 q.reserved

-- the line moves its goods: its source suffices, and the sums that it makes are within 64 bits
pub record MovesGoods (now : ℤ) (line : Line) (stock : Holdings) : Type 0 where
  pub enough : Suffices line (source_quant now line stock)
  pub source : Fits64 (lowered line (source_quant now line stock))
  pub destination : Fits64 (destination_after now line stock)

-- each of the first so many lines moves its goods
abbrev pub AllMove : ℤ → Holdings → List Line → ℕ → Type 0
AllMove now start lines n = (k : ℕ) (line : Line) → k < n → slice_get lines k ≡ Some line → MovesGoods now line (holdings_after now start (take k lines))

-- whether the quant is left after the lines: it isn't of quantity zero, or none of them takes or brings goods where it stands
abbrev pub is_left : List Line → Quant → Bool
is_left lines q = not (int_eq q.quantity (pos 0)) || not (is_touched lines (spot_of q))

-- the quants that are left after all lines, where each moves its goods
pub record IsMoved (now : ℤ) (next : ℕ) (quants : List Quant) (lines : List Line) (moved : List Quant) : Type 0 where
  pub start : Holdings
  pub starts : IsStart quants next start
  pub each : AllMove now start lines (length lines)
  pub left : moved ≡ filter (is_left lines) (holdings_after now start lines).quants

-- the line of this number is the first that doesn't move its goods, and its source, of this id, falls short
pub record IsShortAt (now : ℤ) (next : ℕ) (quants : List Quant) (lines : List Line) (number : ℕ) (quant : RecId) : Type 0 where
  pub start : Holdings
  pub starts : IsStart quants next start
  pub before : AllMove now start lines number
  pub line : Line
  pub is : slice_get lines number ≡ Some line
  pub short : FallsShort line (source_quant now line (holdings_after now start (take number lines)))
  pub source : quant ≡ (source_quant now line (holdings_after now start (take number lines))).id

-- a sum of the quant of this id leaves 64 bits: of the line's source, or, where those of the source don't, of its destination
abbrev pub OverflowsAt : ℤ → Line → Holdings → RecId → Type 0
OverflowsAt now line stock quant = ((¬ Fits64 (lowered line (source_quant now line stock))) × (quant ≡ (source_quant now line stock).id))
    ⊎ (Fits64 (lowered line (source_quant now line stock)) × (¬ Fits64 (destination_after now line stock)) × (quant ≡ (destination_after now line stock).id))

-- the line of this number is the first that doesn't move its goods, and leads the quant of this id out of 64 bits
pub record IsOverflowAt (now : ℤ) (next : ℕ) (quants : List Quant) (lines : List Line) (number : ℕ) (quant : RecId) : Type 0 where
  pub start : Holdings
  pub starts : IsStart quants next start
  pub before : AllMove now start lines number
  pub line : Line
  pub is : slice_get lines number ≡ Some line
  pub enough : Suffices line (source_quant now line (holdings_after now start (take number lines)))
  pub overflows : OverflowsAt now line (holdings_after now start (take number lines)) quant

-- what the first line that doesn't move its goods has wrong with it, at which quant
abbrev pub IsFault : ℤ → ℕ → List Quant → List Line → LineFault → Type 0
IsFault now next quants lines (Short number quant) = IsShortAt now next quants lines number quant
IsFault now next quants lines (Overflow number quant) = IsOverflowAt now next quants lines number quant
IsFault now next quants lines _ = ⊥

-- there is one value of guarded for each place
abbrev pub AreGuardedBy : (RecId → Bool) → List Quant → List Line → Type 0
AreGuardedBy guards quants lines = All (λ q. q.guarded ≡ guards q.place) quants × All (λ line. (line.guarded_from ≡ guards line.from) × (line.guarded_to ≡ guards line.to)) lines
