-- Sums of signed numbers: the quantities of a product, and what stands at a spot.
use Rattle.std.specs.Prelude.{◌≡◌, ℤ, pos, ◌+ℤ◌, ◌≤ℤ◌, ◌==◌, ◌&&◌, List, [], ◌∷◌, true, false, if◌then◌else◌}
use Rattle.ob_base.specs.declared.id.RecId.{RecId}
use Rattle.wh_quant.specs.declared.quant.Quant.{Quant}
use Rattle.wh_quant.specs.declared.quant.Line.{Line}
use Rattle.wh_quant.specs.declared.spot.Spot.{Spot}
use Rattle.wh_quant.specs.Spots.{is_at, same_spot, source_spot, destination_spot}

-- the sum of a number of each element
abbrev pub total : {X : Type 0} → (X → ℤ) → List X → ℤ
total f [] = pos 0
total f (x ∷ xs) = f x +ℤ total f xs

-- the quantity of a quant that counts for a product
abbrev pub quantity_for : RecId → Quant → ℤ
quantity_for product q = if q.product.0 == product.0 then q.quantity else pos 0

-- the sum of a product: that of the quantities of its quants
abbrev pub sum_of : RecId → List Quant → ℤ
sum_of product quants = total (quantity_for product) quants

-- the quantity at a spot: that of its quants together
abbrev pub quantity_at : Spot → List Quant → ℤ
quantity_at spot quants = total (λ q. if is_at spot q then q.quantity else pos 0) quants

-- what is reserved at a spot, of its quants together
abbrev pub reserved_at : Spot → List Quant → ℤ
reserved_at spot quants = total (λ q. if is_at spot q then q.reserved else pos 0) quants

-- what lines take from a spot: the amounts of those whose source it is
abbrev pub taken_from : Spot → List Line → ℤ
taken_from spot lines = total (λ line. if same_spot spot (source_spot line) then line.amount else pos 0) lines

-- what lines take from a spot that they call guarded, and so of what is reserved there
abbrev pub released_from : Spot → List Line → ℤ
released_from spot lines = total (λ line. if line.guarded_from && same_spot spot (source_spot line) then line.amount else pos 0) lines

-- what lines bring to a spot: the amounts of those whose destination it is
abbrev pub brought_to : Spot → List Line → ℤ
brought_to spot lines = total (λ line. if same_spot spot (destination_spot line) then line.amount else pos 0) lines

-- in a guarded place a quant's reserved quantity lies from 0 to its quantity
abbrev pub IsCovered : Quant → Type 0
IsCovered q = q.guarded ≡ true → (pos 0 ≤ℤ q.reserved) × (q.reserved ≤ℤ q.quantity)

-- of a quant in a place that isn't guarded nothing is reserved
abbrev pub IsFreeOutside : Quant → Type 0
IsFreeOutside q = q.guarded ≡ false → q.reserved ≡ pos 0
