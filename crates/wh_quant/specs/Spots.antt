-- Where a quant stands: the product, the place and the lot.
use Rattle.std.specs.Prelude.{Bool, ◌||◌, List}
use Rattle.std.specs.declared.cmp.Ordering.{Ordering}
use Rattle.std.specs.Ordering.{nat_cmp, ordering_then, eq_by_cmp}
use Rattle.std.specs.Option.{option_cmp}
use Rattle.std.specs.List.{list_any}
use Rattle.wh_quant.specs.declared.quant.Quant.{Quant}
use Rattle.wh_quant.specs.declared.quant.Line.{Line}
use Rattle.wh_quant.specs.declared.spot.Spot.{Spot}

-- the spot of a quant
abbrev pub spot_of : Quant → Spot
spot_of q = record { product = q.product; place = q.place; lot = q.lot }

-- where a line takes its goods, and where it brings them
abbrev pub source_spot : Line → Spot
source_spot line = record { product = line.product; place = line.from; lot = line.lot }

abbrev pub destination_spot : Line → Spot
destination_spot line = record { product = line.product; place = line.to; lot = line.lot }

-- by product, then place, then lot, unset first
abbrev pub spot_cmp : Spot → Spot → Ordering
spot_cmp a b = ordering_then (nat_cmp a.product.0 b.product.0) (ordering_then (nat_cmp a.place.0 b.place.0) (option_cmp (λ x y. nat_cmp x.0 y.0) a.lot b.lot))

-- whether the two are one
abbrev pub same_spot : Spot → Spot → Bool
same_spot = eq_by_cmp spot_cmp

-- whether the quant stands at the spot
abbrev pub is_at : Spot → Quant → Bool
is_at spot q = same_spot spot (spot_of q)

-- whether one of the lines takes goods from the spot, or brings some there
abbrev pub is_touched : List Line → Spot → Bool
is_touched lines spot = list_any (λ line. same_spot (source_spot line) spot || same_spot (destination_spot line) spot) lines
