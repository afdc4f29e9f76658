-- the text is that of the date's numbers, and the date is the day's
use Rattle.std.proofs.Common.{◌≡◌, ◌<◌, [], ℕ, ap, sym, subst, ◌∙◌, arith, to_z, of_z, to_z-of_z, w16, w32, FitsSigned}
use Rattle.std.specs.Prelude.{unsigned_abs}
use Rattle.std.specs.Fmt.{styled_decimal}
use Rattle.jiff_core.proofs.SignedLemmas.{signed_arith}
use Rattle.ob_dates.proofs.Dates.{small_numbers}
use Rattle.ob_dates.proofs.Forms.{date_form}
use Rattle.ob_dates.proofs.Padding.{written_date}
use Rattle.ob_dates.proofs.Readings.{date_read}
use Rattle.ob_dates.proofs.day.day_text.Goals as goal

pub returns : goal.returns
returns c =
    let date = c.date_of-date.result in
    let number = unsigned_abs (to_z w16 (of_z w16 date.year)) in
    let small = small_numbers date c.date_of-date.ensures.year in
    let fits : FitsSigned w16 date.year = omega (arith, signed_arith, date.year_in) in
    let day_fits : FitsSigned w32 c.args.day = c.ranges.day in
    let year : number ≡ unsigned_abs date.year = ap unsigned_abs (to_z-of_z fits) in
    date_read date c.args.day c.new.result c.date_of-date.ensures.year (c.date_of-date.ensures.same ∙ to_z-of_z day_fits)
    (c.new.ensures ∙ c.in_ok-text.ensures.ok
    ∙ written_date (styled_decimal c.laid_out.result number) (styled_decimal c.laid_out-2.result date.month) (styled_decimal c.laid_out-3.result date.day) number date.month date.day
    (ap (λ s. styled_decimal s number) c.laid_out.ensures) (ap (λ s. styled_decimal s date.month) c.laid_out-2.ensures) (ap (λ s. styled_decimal s date.day) c.laid_out-3.ensures)
    (subst (λ (n : ℕ). n < 10000) (sym year) small.year) small.month small.day
    ∙ ap (λ (n : ℕ). date_form n date.month date.day []) year)
