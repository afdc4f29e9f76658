-- What operators and functions make of values. An operator that is added has its value here.
use Rattle.std.specs.Prelude.{ℕ, zero, suc, ◌-◌, ◌^◌, ℤ, pos, negsuc, neg_ℤ, ◌+ℤ◌, ◌-ℤ◌, ◌*ℤ◌, int_le, int_lt, List, [], length}
use Rattle.std.specs.Prelude.{filter, unwrap_or, Bool, true, false, not, ◌&&◌, Result, Ok, Err, if◌then◌else◌, nat_lt}
use Rattle.std.specs.Fmt.{signed_decimal}
use Rattle.std.specs.Int.{int_div_euclid, int_rem_euclid}
use Rattle.std.specs.List.{fold, reduce, flat_map, list_any, list_all}
use Rattle.std.specs.Ordering.{is_eq, is_lt, is_le, is_gt, is_ge}
use Rattle.ob_base.specs.Limits.{max_text_bytes}
use Rattle.ob_base.specs.ValueOrder.{value_order}
use Rattle.ob_base.specs.declared.id.Cell.{Cell}
use Rattle.ob_base.specs.declared.value.Value.{Value}
use Rattle.ob_base.specs.declared.value.Value.TheVariants as value
use Rattle.ob_expr.specs.declared.kind.Kind.{Kind}
use Rattle.ob_base.specs.declared.syntax.Operator.{Operator}
use Rattle.ob_base.specs.declared.syntax.Operator.TheVariants.{Or, And, Equal, NotEqual, Less, LessOrEqual, Greater, Add, Subtract, Multiply, Divide, Modulo}
use Rattle.ob_base.specs.declared.syntax.Prefix.{Prefix}
use Rattle.ob_base.specs.declared.syntax.Prefix.TheVariants.{Not, Minus}
use Rattle.ob_expr.specs.declared.typed.Aggregate.{Aggregate}
use Rattle.ob_expr.specs.declared.typed.Aggregate.TheVariants.{Count, Any, All, Sum, Extreme as AnExtreme}
use Rattle.ob_expr.specs.declared.typed.Extreme.{Extreme}
use Rattle.ob_expr.specs.declared.typed.Extreme.TheVariants.{Least, Greatest}
use Rattle.ob_expr.specs.Kinds.{empty_value}

-- why an expression has no value: a fault of its own, or a cell that it reads has none
pub data Lack : Type 0 where
  overflow : Lack
  too_long : Lack
  zero_divisor : Lack
  unread : Cell → Lack

-- an integer of 64 bits, or an overflow
abbrev pub fitted : ℤ → Result Value Lack
fitted n = if int_le (negsuc (2 ^ 63 - 1)) n && int_le n (pos (2 ^ 63 - 1)) then Ok (value.Int n) else Err overflow

-- a text, or too long a one
abbrev pub short_enough : List ℕ → Result Value Lack
short_enough bytes = if nat_lt max_text_bytes (length bytes) then Err too_long else Ok (value.Word bytes)

-- the bytes of a text; an unset one is empty
abbrev pub bytes_of : Value → List ℕ
bytes_of (value.Word bytes) = bytes
bytes_of _ = []

-- texts one behind another
abbrev pub joined_value : List Value → Result Value Lack
joined_value vs = short_enough (flat_map bytes_of vs)

-- the number that an integer, a day or a moment is
abbrev pub number_of : Value → ℤ
number_of (value.Int n) = n
number_of (value.Day n) = n
number_of (value.Moment n) = n
number_of _ = pos 0

-- the decimal digits of an integer
abbrev pub digits_value : Value → Value
digits_value v = value.Word (signed_decimal (number_of v))

-- the greatest integer that is no greater than the quotient; with a divisor below 0, both change their signs
abbrev pub floor_of : ℤ → ℤ → ℤ
floor_of a (pos d) = int_div_euclid a (pos d)
floor_of a (negsuc d) = int_div_euclid (neg_ℤ a) (pos (suc d))

-- what the divisor's multiple leaves, of the divisor's sign
abbrev pub rest_of : ℤ → ℤ → ℤ
rest_of a (pos d) = int_rem_euclid a (pos d)
rest_of a (negsuc d) = neg_ℤ (int_rem_euclid (neg_ℤ a) (pos (suc d)))

abbrev pub is_true : Value → Bool
is_true (value.Bool b) = b
is_true _ = false

abbrev pub is_unset : Value → Bool
is_unset value.Nil = true
is_unset _ = false

abbrev pub prefixed_value : Prefix → Value → Result Value Lack
prefixed_value Not v = Ok (value.Bool (not (is_true v)))
prefixed_value Minus v = fitted (neg_ℤ (number_of v))

-- whether the left operand decides: the right one is then never evaluated
abbrev pub decides : Operator → Value → Bool
decides Or v = is_true v
decides And v = not (is_true v)
decides _ v = false

-- nothing is divided by 0
abbrev pub divided : ℤ → Result Value Lack → Result Value Lack
divided (pos zero) result = Err zero_divisor
divided divisor result = result

-- what arithmetic makes of integers; a rest always fits
abbrev pub arithmetic_value : Operator → ℤ → ℤ → Result Value Lack
arithmetic_value Add a b = fitted (a +ℤ b)
arithmetic_value Subtract a b = fitted (a -ℤ b)
arithmetic_value Multiply a b = fitted (a *ℤ b)
arithmetic_value Divide a b = divided b (fitted (floor_of a b))
arithmetic_value _ a b = divided b (Ok (value.Int (rest_of a b)))

-- an order holds of no unset value
abbrev pub both_set : Value → Value → Bool
both_set a b = not (is_unset a) && not (is_unset b)

-- whether a comparison holds
abbrev pub compares : Operator → Value → Value → Bool
compares Equal a b = is_eq (value_order a b)
compares NotEqual a b = not (is_eq (value_order a b))
compares Less a b = both_set a b && is_lt (value_order a b)
compares LessOrEqual a b = both_set a b && is_le (value_order a b)
compares Greater a b = both_set a b && is_gt (value_order a b)
compares _ a b = both_set a b && is_ge (value_order a b)

-- what an operator makes of both operands; those of `or` and `and` come here only where the left one doesn't decide
abbrev pub operated_value : Operator → Value → Value → Result Value Lack
operated_value Or a b = Ok b
operated_value And a b = Ok b
operated_value Add a b = arithmetic_value Add (number_of a) (number_of b)
operated_value Subtract a b = arithmetic_value Subtract (number_of a) (number_of b)
operated_value Multiply a b = arithmetic_value Multiply (number_of a) (number_of b)
operated_value Divide a b = arithmetic_value Divide (number_of a) (number_of b)
operated_value Modulo a b = arithmetic_value Modulo (number_of a) (number_of b)
operated_value op a b = Ok (value.Bool (compares op a b))

-- the lesser or the greater of two by their numbers
abbrev pub chosen_value : Extreme → Value → Value → Value
chosen_value Least a b = if int_lt (number_of b) (number_of a) then b else a
chosen_value Greatest a b = if int_lt (number_of a) (number_of b) then b else a

-- the least or the greatest of those that are set; without one, what stands for nothing
abbrev pub extreme_of : Extreme → Value → List Value → Value
extreme_of which none vs = unwrap_or (reduce (chosen_value which) (filter (λ v. not (is_unset v)) vs)) none

-- the sum of the numbers
abbrev pub total : List Value → ℤ
total vs = fold (λ sum v. sum +ℤ number_of v) (pos 0) vs

-- what is made of the values at the targets, of a kind
abbrev pub gathered_value : Aggregate → Kind → List Value → Result Value Lack
gathered_value Count k vs = Ok (value.Int (pos (length (filter is_true vs))))
gathered_value Any k vs = Ok (value.Bool (list_any is_true vs))
gathered_value All k vs = Ok (value.Bool (list_all is_true vs))
gathered_value Sum k vs = fitted (total vs)
gathered_value (AnExtreme which) k vs = Ok (extreme_of which (empty_value k) vs)
