-- one more digit, of which there are four at most
use Rattle.std.proofs.Common.{◌+◌, ◌-◌, ◌<◌, take, drop, arith}
use Rattle.std.proofs.lemmas.List.{length-take}
use Rattle.ob_dates.proofs.Places.{digit_of_part, below_thousand, digits_value-push}
use Rattle.ob_dates.proofs.text.number_at.Goals as goal

pub overflow_add-number : goal.overflow_add-number
overflow_add-number c =
    let within : c.loop-byte.byte-index < c.args.len = omega (arith, length-take (c.args.start + c.args.len - c.args.start) (drop c.args.start c.args.text.now)) in
    let small = below_thousand c.loop-byte.byte-index c.loop-byte.number (omega arith) c.loop-byte.invariant.1 in
    let digit = digit_of_part c.args.text.now c.args.start c.args.len c.loop-byte.byte-index c.requires.digits within in
    omega (arith, small, c.from.ensures, digit.1)

pub loop-byte-preserved : goal.loop-byte-preserved
loop-byte-preserved c =
    let within : c.loop-byte.byte-index < c.args.len = omega (arith, length-take (c.args.start + c.args.len - c.args.start) (drop c.args.start c.args.text.now)) in
    let digit = digit_of_part c.args.text.now c.args.start c.args.len c.loop-byte.byte-index c.requires.digits within in
    digits_value-push (take (c.args.start + c.args.len - c.args.start) (drop c.args.start c.args.text.now)) c.loop-byte.byte-index c.loop-byte.number c.from.result
    c.loop-byte-test.true c.loop-byte.invariant.0 c.loop-byte.invariant.1 digit (omega (arith, c.from.ensures, digit.0))
