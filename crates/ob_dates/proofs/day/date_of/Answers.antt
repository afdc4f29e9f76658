-- a day of the years from 1 on is of such a year
use Rattle.std.proofs.Common.{◌≡◌, ℤ, negsuc, ◌≤ℤ◌, rules, sym, subst}
use Rattle.jiff_core.specs.Date.{epoch_day}
use Rattle.ob_dates.proofs.Dates.{year_of_day}
use Rattle.ob_dates.proofs.day.date_of.Goals as goal

pub returns-clause-year : goal.returns-clause-year
returns-clause-year c =
    let same : epoch_day c.unwrap.result ≡ c.args.day = search rules in
    year_of_day c.unwrap.result (subst (λ (z : ℤ). negsuc 719161 ≤ℤ z) (sym same) c.requires.low)
