-- Private: quants with an index by spot, and what they stand for; the spots of lines as a set.
use Rattle.std.specs.Prelude.{◌≡◌, ℕ, suc, Bool, not, ◌||◌, pos, List, [], ◌∷◌, Option, Some, None, if◌then◌else◌}
use Rattle.std.specs.Option.{option_map}
use Rattle.std.specs.Ordering.{int_eq}
use Rattle.std.specs.BTreeMap as tree
use Rattle.std.specs.BTreeSet as tree_set
use Rattle.wh_quant.specs.declared.quant.Quant.{Quant}
use Rattle.wh_quant.specs.declared.quant.Line.{Line}
use Rattle.wh_quant.specs.declared.spot.Spot.{Spot}
use Rattle.wh_quant.specs.declared.indexed.IndexedQuants.{IndexedQuants}
use Rattle.wh_quant.specs.Spots.{spot_of, spot_cmp, is_at, is_touched}
use Rattle.wh_quant.specs.Moves.{Holdings}

-- the quants and the next id, without the index
abbrev pub holdings_of : IndexedQuants → Holdings
holdings_of stock = record { quants = stock.quants.items; next = stock.next }

-- the place of the first quant that passes, where one does
abbrev pub first_place : (Quant → Bool) → List Quant → Option ℕ
first_place test [] = None
first_place test (q ∷ quants) = if test q then Some 0 else option_map (λ n. suc n) (first_place test quants)

-- the index has for each spot the place of its first quant, and nothing where it has none
abbrev pub AreFirstPlaces : tree.BTreeMap Spot ℕ → List Quant → Type 0
AreFirstPlaces places quants = (spot : Spot) → tree.get spot_cmp places spot ≡ first_place (is_at spot) quants

-- the index is that of the quants
abbrev pub IsIndexed : IndexedQuants → Type 0
IsIndexed stock = AreFirstPlaces stock.places stock.quants.items

-- the set has the spots where the lines take and bring goods
abbrev pub AreTouched : tree_set.BTreeSet Spot → List Line → Type 0
AreTouched spots lines = (spot : Spot) → tree_set.contains spot_cmp spots spot ≡ is_touched lines spot

-- whether the quant is left where these are the spots of the lines
abbrev pub stays_beside : tree_set.BTreeSet Spot → Quant → Bool
stays_beside spots q = not (int_eq q.quantity (pos 0)) || not (tree_set.contains spot_cmp spots (spot_of q))
