use Rattle.std.proofs.Common.{◌≡◌, ℤ, pos, ◌≤ℤ◌, arith}
use Rattle.jiff_core.proofs.SignedLemmas.{signed_arith}
use Rattle.ob_group.proofs.PeriodDays.{day_within}
use Rattle.ob_group.proofs.period.first_of_month.Goals as goal

pub returns-clause-within : goal.returns-clause-within
returns-clause-within c =
    let low : pos 1 ≤ℤ c.in-Ok.date.year = omega (arith, signed_arith, c.in-Ok.ensures.value.0, c.requires.year) in
    let within = day_within c.in-Ok.date low in
    let is = c.to_unix_epoch_day.ensures.value in
    record { low = omega (arith, signed_arith, within.low, is); high = omega (arith, signed_arith, within.high, is) }
