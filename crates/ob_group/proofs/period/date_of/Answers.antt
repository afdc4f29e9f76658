-- a day of the years of dates is of such a year, and of the month that had begun last
use Rattle.std.proofs.Common.{◌≡◌, ℕ, ℤ, pos, negsuc, ◌≤ℤ◌, rules, sym, subst}
use Rattle.jiff_core.specs.Date.{epoch_day}
use Rattle.ob_group.specs.GroupPeriods.{month_of, year_of}
use Rattle.ob_group.proofs.PeriodDays.{first_year, month_is, year_is}
use Rattle.ob_group.proofs.period.date_of.Goals as goal

pub returns-clause-year : goal.returns-clause-year
returns-clause-year c =
    let same : epoch_day c.unwrap.result ≡ c.args.day = search rules in
    (first_year c.unwrap.result (subst (λ (z : ℤ). negsuc 719161 ≤ℤ z) (sym same) c.requires.low), c.unwrap.result.year_in.1)

pub returns-clause-year_of : goal.returns-clause-year_of
returns-clause-year_of c =
    let same : epoch_day c.unwrap.result ≡ c.args.day = search rules in
    let from = first_year c.unwrap.result (subst (λ (z : ℤ). negsuc 719161 ≤ℤ z) (sym same) c.requires.low) in
    subst (λ (z : ℤ). c.unwrap.result.year ≡ pos (year_of z)) same (year_is c.unwrap.result from)

pub returns-clause-month_of : goal.returns-clause-month_of
returns-clause-month_of c =
    let same : epoch_day c.unwrap.result ≡ c.args.day = search rules in
    let from = first_year c.unwrap.result (subst (λ (z : ℤ). negsuc 719161 ≤ℤ z) (sym same) c.requires.low) in
    subst (λ (z : ℤ). c.unwrap.result.month ≡ month_of z) same (month_is c.unwrap.result from)
