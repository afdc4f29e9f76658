-- a text of the shape has the digits of a date and of a time, and any other names no moment
use Rattle.std.proofs.Common.{◌≡◌, ◌∙◌, ℤ, Option, Some, rules, sym, ap}
use Rattle.ob_dates.specs.Texts.{shape_of, date_in, time_in, moment_at, moment_from}
use Rattle.ob_dates.proofs.Forms.{moment_shape, has_date_of_moment, has_time}
use Rattle.ob_dates.proofs.Readings.{read_shaped, read_unshaped, moment_number}
use Rattle.ob_dates.proofs.moment.moment_of.Goals as goal

pub returns-then-not-has_shape-clause-value : goal.returns-then-not-has_shape-clause-value
returns-then-not-has_shape-clause-value c =
    let text = c.as_bytes-text.result.now in
    let shaped : shape_of text ≡ moment_shape → ⊥ = λ e. search (rules, c.has_shape.ensures.1 e) in
    sym (read_unshaped text moment_shape (moment_at (date_in text) (time_in text)) shaped) ∙ ap moment_from c.as_bytes-text.ensures.value

pub date_at_start-requires : goal.date_at_start-requires
date_at_start-requires c = has_date_of_moment c.as_bytes-text.result.now (c.has_shape.ensures.0 (search rules))

pub time_after_date-requires : goal.time_after_date-requires
time_after_date-requires c = has_time c.as_bytes-text.result.now (c.has_shape.ensures.0 (search rules))

pub returns-clause-value : goal.returns-clause-value
returns-clause-value c =
    let text = c.as_bytes-text.result.now in
    let shaped : shape_of text ≡ moment_shape = c.has_shape.ensures.0 (search rules) in
    ap (λ (z : ℤ). Some z) (moment_number c.in_ok-day.day c.in_ok-seconds.seconds c.in_ok-day.ensures.within c.in_ok-seconds.ensures.within)
    ∙ ap (λ (o : Option ℤ). moment_at o (Some c.in_ok-seconds.seconds)) c.in_ok-day.ensures.value
    ∙ ap (moment_at (date_in text)) c.in_ok-seconds.ensures.value
    ∙ sym (read_shaped text moment_shape (moment_at (date_in text) (time_in text)) shaped)
    ∙ ap moment_from c.as_bytes-text.ensures.value
