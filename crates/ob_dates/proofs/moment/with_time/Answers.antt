-- the text is the day's and that of the numbers of the time
use Rattle.std.proofs.Common.{◌≡◌, ◌∙◌, ◌/◌, ◌%◌, ◌++◌, ◌∷◌, ap, string_bytes, arith}
use Rattle.std.specs.Fmt.{styled_decimal}
use Rattle.ob_dates.proofs.Padding.{written_time}
use Rattle.ob_dates.proofs.Readings.{moment_read, time_of_seconds, seconds_again}
use Rattle.ob_dates.proofs.moment.with_time.Goals as goal

pub returns : goal.returns
returns c =
    let front = c.args.date.now in
    let hour = c.args.seconds / 3600 in
    let minute = c.args.seconds / 60 % 60 in
    let second = c.args.seconds % 60 in
    let written : string_bytes c.in_ok-text.text ≡ front ++ (32 ∷ (styled_decimal c.laid_out.result hour ++ (58 ∷ (styled_decimal c.laid_out-2.result minute ++ (58 ∷ styled_decimal c.laid_out-3.result second))))) =
    c.in_ok-text.ensures.ok in
    let padded = written_time front (styled_decimal c.laid_out.result hour) (styled_decimal c.laid_out-2.result minute) (styled_decimal c.laid_out-3.result second) hour minute second
    (ap (λ s. styled_decimal s hour) c.laid_out.ensures) (ap (λ s. styled_decimal s minute) c.laid_out-2.ensures) (ap (λ s. styled_decimal s second) c.laid_out-3.ensures)
    (omega (arith, c.requires)) (omega arith) (omega arith) in
    λ day read. moment_read c.new.result front hour minute second c.args.seconds day read (c.new.ensures ∙ written ∙ padded)
    (time_of_seconds c.args.seconds c.requires) (seconds_again c.args.seconds)
