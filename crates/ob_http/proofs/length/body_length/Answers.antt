-- More than seven digits without a zero before them write more than a body may have.
use Rattle.std.proofs.Common.{◌≡◌, ◌<◌, ◌≤◌, ◌^◌, nat_le, Some, None, ℕ, true, false, Bool, cond, arith, refl, lit<}
use Rattle.std.specs.Str.Parse.{digits_value}
use Rattle.std.proofs.lemmas.Bool.{leb-true}
use Rattle.ob_base.specs.Limits.{max_line_bytes}
use Rattle.ob_http.proofs.Decimals.{many_digits, digits_tested, next_digit}
use Rattle.ob_http.proofs.length.body_length.Goals as goal

too_many : (n : ℕ) → 10 ^ 7 ≤ n → None ≡ cond (nat_le n max_line_bytes) (Some n) None
too_many n least = at (nat_le n max_line_bytes) (λ e. leb-true n max_line_bytes e)
  where
    at : (b : Bool) → (b ≡ true → n ≤ max_line_bytes) → None ≡ cond b (Some n) None
    at true fits = let over : max_line_bytes < 10 ^ 7 = lit< tt in let within : n ≤ max_line_bytes = fits refl in absurd (omega arith)
    at false fits = refl

pub returns-then-digits-gt-MOST_DIGITS : goal.returns-then-digits-gt-MOST_DIGITS
returns-then-digits-gt-MOST_DIGITS c = too_many (digits_value 10 c.args.digits.now)
    (many_digits c.args.digits.now 7 (digits_tested c.args.digits.now c.requires.digits) c.requires.no_zero c.if-digits-gt-MOST_DIGITS.true)

pub loop-digit-preserved : goal.loop-digit-preserved
loop-digit-preserved c =
    rw c.from.ensures (next_digit c.args.digits.now c.loop-digit.digit-index c.loop-digit.number c.requires.digits c.loop-digit-test.true c.loop-digit.invariant.0 c.loop-digit.invariant.1)
