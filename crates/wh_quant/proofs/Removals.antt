-- Each order of removal is total, so that a sort by it is one.
use Rattle.std.proofs.Common.{◌≡◌, ℤ, Option, Some, None, refl, subst}
use Rattle.std.specs.Cmp.{IsTotalOrder}
use Rattle.std.specs.Cmp.Lexicographic.{options_total}
use Rattle.std.specs.Ordering.{int_cmp, flip_args}
use Rattle.std.specs.Option.{option_cmp}
use Rattle.std.proofs.lemmas.Cmp.{then_total, on_total, back_total, nat_cmp_total, int_cmp_total, nat_list_cmp_total}
use Rattle.wh_quant.specs.declared.stock.Stock.{Stock}
use Rattle.wh_quant.specs.declared.stock.Removal.{Removal}
use Rattle.wh_quant.specs.declared.stock.Removal.TheVariants.{Fifo, Lifo, Fefo, Closest}
use Rattle.wh_quant.specs.Takes.{date_cmp, age_cmp, removal_cmp}

-- unset last is unset first, the other way round
turned : (a b : Option ℤ) → flip_args (option_cmp (flip_args int_cmp)) a b ≡ date_cmp a b
turned (Some a) (Some b) = refl
turned (Some a) None = refl
turned None (Some b) = refl
turned None None = refl

date_cmp_total : IsTotalOrder date_cmp
date_cmp_total = subst IsTotalOrder (λ i a b. turned a b i) (back_total (options_total (back_total int_cmp_total)))

age_cmp_total : IsTotalOrder age_cmp
age_cmp_total = then_total (on_total (λ (s : Stock). s.in_date) int_cmp_total) (on_total (λ (s : Stock). s.quant.0) nat_cmp_total)

pub removal_cmp_total : (order : Removal) → IsTotalOrder (removal_cmp order)
removal_cmp_total Fifo = age_cmp_total
removal_cmp_total Lifo = back_total age_cmp_total
removal_cmp_total Fefo = then_total (on_total (λ (s : Stock). s.removal) date_cmp_total) age_cmp_total
removal_cmp_total Closest = then_total (on_total (λ (s : Stock). s.place) nat_list_cmp_total) (on_total (λ (s : Stock). s.quant.0) nat_cmp_total)
