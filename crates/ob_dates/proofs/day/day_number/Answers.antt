-- the constructor has exactly the calendar's dates, and the year 0 is tested before it
use Rattle.std.proofs.Common.{◌≡◌, ◌≤◌, ◌∙◌, ℤ, pos, Some, ap, sym, FitsSigned, to_z-of_z, w8, w16, w32, arith}
use Rattle.std.proofs.lemmas.Int.{to_z_pos}
use Rattle.jiff_core.proofs.SignedLemmas.{signed_arith}
use Rattle.ob_dates.proofs.Dates.{made_date, is_day_of_date}
use Rattle.ob_dates.proofs.day.day_number.Goals as goal

pub returns-clause-value : goal.returns-clause-value
returns-clause-value c =
    let fits : FitsSigned w32 c.to_unix_epoch_day.result = omega (arith, signed_arith, c.to_unix_epoch_day.ensures.bound) in
    let year : c.in-Ok.date.year ≡ pos c.args.year = c.in-Ok.ensures.value.0 ∙ to_z_pos w16 c.args.year (omega arith) in
    let month : pos c.in-Ok.date.month ≡ pos c.args.month = c.in-Ok.ensures.value.1 ∙ to_z_pos w8 c.args.month (omega arith) in
    let day : pos c.in-Ok.date.day ≡ pos c.args.day = c.in-Ok.ensures.value.2 ∙ to_z_pos w8 c.args.day (omega arith) in
    let low : 1 ≤ c.args.year = omega arith in
    let made = made_date c.args.year c.args.month c.args.day c.in-Ok.date low (year, month, day) in
    ap (λ (z : ℤ). Some z) (to_z-of_z fits ∙ c.to_unix_epoch_day.ensures.value) ∙ sym made

pub returns-clause-within : goal.returns-clause-within
returns-clause-within c =
    is_day_of_date c.args.year c.args.month c.args.day _ (sym (returns-clause-value c))
