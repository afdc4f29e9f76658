-- the moment is made up of its day and of the seconds since that began
use Rattle.std.proofs.Common.{◌∙◌, ◌≤ℤ◌, ℤ, pos, Some, ap, arith}
use Rattle.std.proofs.lemmas.Result.{IfOk-weaker}
use Rattle.jiff_core.proofs.SignedLemmas.{signed_arith}
use Rattle.ob_dates.specs.Texts.{day_from}
use Rattle.ob_dates.proofs.Readings.{parts_again}
use Rattle.ob_dates.proofs.moment.moment_text.Goals as goal

pub returns : goal.returns
returns c =
    let rest = c.rem_euclid-seconds.ensures in
    let low : pos 0 ≤ℤ c.rem_euclid-seconds.result = omega (arith, signed_arith, rest.lower_bound) in
    let sum = parts_again c.args.moment c.div_euclid.result c.rem_euclid-seconds.result c.requires c.ranges.moment c.div_euclid.ensures rest.value low rest.upper_bound in
    IfOk-weaker c.with_time.result _ _
    (λ text says. says _ (ap day_from c.as_str.ensures ∙ c.in_ok-day.ensures) ∙ ap (λ (z : ℤ). Some z) sum) c.with_time.ensures
