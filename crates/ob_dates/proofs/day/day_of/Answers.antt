-- a text of the shape has a date's digits, and any other names no day
use Rattle.std.proofs.Common.{◌≡◌, ◌∙◌, rules, sym, ap}
use Rattle.ob_dates.specs.Texts.{shape_of, day_from, date_in}
use Rattle.ob_dates.proofs.Forms.{day_shape, has_date_of_day}
use Rattle.ob_dates.proofs.Readings.{read_unshaped}
use Rattle.ob_dates.proofs.day.day_of.Goals as goal

pub returns-then-not-has_shape-clause-value : goal.returns-then-not-has_shape-clause-value
returns-then-not-has_shape-clause-value c =
    let shaped : shape_of c.as_bytes-text.result.now ≡ day_shape → ⊥ = λ e. search (rules, c.has_shape.ensures.1 e) in
    sym (read_unshaped c.as_bytes-text.result.now day_shape (date_in c.as_bytes-text.result.now) shaped) ∙ ap day_from c.as_bytes-text.ensures.value

pub date_at_start-requires : goal.date_at_start-requires
date_at_start-requires c = has_date_of_day c.as_bytes-text.result.now (c.has_shape.ensures.0 (search rules))
