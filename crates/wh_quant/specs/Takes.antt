-- What candidates give of a wanted quantity, in the order of removal.
use Rattle.std.specs.Prelude.{◌≡◌, ℤ, pos, ◌-ℤ◌, ◌<ℤ◌, ◌≤ℤ◌, int_lt, List, [], ◌∷◌, filter, Contains, IsSorted, IsPermutation, Option, Some, None}
use Rattle.std.specs.declared.cmp.Ordering.{Ordering}
use Rattle.std.specs.declared.cmp.Ordering.TheVariants.{Less, Equal, Greater}
use Rattle.std.specs.Int.{int_min, int_max}
use Rattle.std.specs.Ordering.{nat_cmp, int_cmp, then_cmp, on, flip_args}
use Rattle.std.specs.Cmp.Lexicographic.{slice_cmp}
use Rattle.wh_quant.specs.declared.stock.Stock.{Stock}
use Rattle.wh_quant.specs.declared.stock.Take.{Take}
use Rattle.wh_quant.specs.declared.stock.Removal.{Removal}
use Rattle.wh_quant.specs.declared.stock.Removal.TheVariants.{Fifo, Lifo, Fefo, Closest}

-- by date, with unset last
abbrev pub date_cmp : Option ℤ → Option ℤ → Ordering
date_cmp (Some a) (Some b) = int_cmp a b
date_cmp (Some a) None = Less
date_cmp None (Some b) = Greater
date_cmp None None = Equal

-- by the date that goods came in, then id
abbrev pub age_cmp : Stock → Stock → Ordering
age_cmp = then_cmp (on (λ s. s.in_date) int_cmp) (on (λ s. s.quant.0) nat_cmp)

-- the order in which stocks give: the oldest first; the newest first; what is to be removed first; by the bytes of the place, then id
abbrev pub removal_cmp : Removal → Stock → Stock → Ordering
removal_cmp Fifo = age_cmp
removal_cmp Lifo = flip_args age_cmp
removal_cmp Fefo = then_cmp (on (λ s. s.removal) date_cmp) age_cmp
removal_cmp Closest = then_cmp (on (λ s. s.place) (slice_cmp nat_cmp)) (on (λ s. s.quant.0) nat_cmp)

-- a stock that has something free
abbrev pub HasFree : Stock → Type 0
HasFree s = pos 0 <ℤ s.free

-- the candidates in order: the stocks that have something free
pub record IsRanked (order : Removal) (stocks ranked : List Stock) : Type 0 where
  pub same : IsPermutation (filter (λ s. int_lt (pos 0) s.free) stocks) ranked
  pub sorted : IsSorted (removal_cmp order) ranked

-- what each gives in turn: the lesser of what it has free and what is still wanted, if anything is
abbrev pub gifts : ℤ → List Stock → List Take
gifts want [] = []
gifts want (s ∷ rest) = record { quant = s.quant; amount = int_min s.free (int_max (pos 0) want) } ∷ gifts (want -ℤ s.free) rest

-- the gifts, those of zero left out
abbrev pub takes_from : ℤ → List Stock → List Take
takes_from want ranked = filter (λ t. int_lt (pos 0) t.amount) (gifts want ranked)

-- the takes of a wanted quantity from stocks in an order of removal
abbrev pub AreTakes : Removal → List Stock → ℤ → List Take → Type 0
AreTakes order stocks want taken = (ranked : List Stock) × IsRanked order stocks ranked × (taken ≡ takes_from want ranked)

-- the take gives something of a stock, and no more than is free there
abbrev pub IsTakeOf : List Stock → Take → Type 0
IsTakeOf stocks t = (s : Stock) × Contains stocks s × (t.quant ≡ s.quant) × (pos 0 <ℤ t.amount) × (t.amount ≤ℤ s.free)
