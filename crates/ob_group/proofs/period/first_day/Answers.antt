use Rattle.std.proofs.Common.{◌≡◌, ℤ, pos, negsuc, ◌-ℤ◌, ◌≤ℤ◌, ap, arith, rules}
use Rattle.jiff_core.proofs.SignedLemmas.{signed_arith}
use Rattle.jiff_core.specs.Calendar.{weekday_number}
use Rattle.jiff_core.specs.Date.{epoch_day}
use Rattle.ob_group.proofs.PeriodDays.{week_within}
use Rattle.ob_group.proofs.period.first_day.Goals as goal

pub returns-in-Week-clause-within : goal.returns-in-Week-clause-within
returns-in-Week-clause-within c =
    let day : epoch_day c.date_of-date.result ≡ c.args.day = search rules in
    let same : pos (weekday_number (epoch_day c.date_of-date.result)) ≡ pos (weekday_number c.args.day) = ap (λ (z : ℤ). pos (weekday_number z)) day in
    let low = week_within c.args.day c.requires.low in
    let since = c.days_since_monday.ensures.days in
    record { low = omega (arith, signed_arith, same, since, low); high = omega (arith, signed_arith, same, since, c.requires.high, c.days_since_monday.ensures.within) }
