-- What is told of the values that the rows of a group hold for a field.
use Rattle.std.specs.Prelude.{◌≡◌, ◌↔◌, ◌&&◌, ◌-◌, ◌^◌, int_le, negsuc, List, [], ◌∷◌, filter, length, Contains, Bool, false, not, if◌then◌else◌, Option, Some, None, ℤ, pos, ◌+ℤ◌}
use Rattle.std.specs.Fmt.{signed_decimal}
use Rattle.std.specs.Int.{int_max, int_min}
use Rattle.std.specs.List.Sorted.{IsStrictlySortedBy}
use Rattle.std.specs.Option.{option_map_or}
use Rattle.std.specs.declared.cmp.Ordering.{Ordering}
use Rattle.ob_base.specs.declared.value.Value.{Value}
use Rattle.ob_base.specs.declared.value.Value.TheVariants as value
use Rattle.ob_codec.specs.CommandForms.{number_json}
use Rattle.ob_domain.specs.Passing.{is_unset}
use Rattle.ob_query.specs.SearchOrder.{unset_last}
use Rattle.ob_group.specs.declared.amounts.Amount.{Amount}
use Rattle.ob_group.specs.declared.amounts.Amount.TheVariants as amount
use Rattle.serde_json.specs.Data.{Data, boolean, number, string}
use Rattle.serde_json.specs.Find.{of_integer}

-- the number that an integer's value is
abbrev pub whole_of : Value → ℤ
whole_of (value.Int n) = n
whole_of _ = pos 0

-- the sum of the numbers that values are
abbrev pub total : List Value → ℤ
total [] = pos 0
total (v ∷ vs) = whole_of v +ℤ total vs

-- the least of them, and the greatest; of no values there is none
abbrev pub least : List Value → Option ℤ
least [] = None
least (v ∷ vs) = Some (option_map_or (int_min (whole_of v)) (least vs) (whole_of v))

abbrev pub greatest : List Value → Option ℤ
greatest [] = None
greatest (v ∷ vs) = Some (option_map_or (int_max (whole_of v)) (greatest vs) (whole_of v))

-- the values that are set
abbrev pub set_values : List Value → List Value
set_values vs = filter (λ v. not (is_unset v)) vs

-- what stands in a list, each once and rising
pub record AreDistinct {X : Type 0} (order : X → X → Ordering) (all distinct : List X) : Type 0 where
  pub rising : IsStrictlySortedBy order distinct
  pub same : (x : X) → Contains all x ↔ Contains distinct x

-- the JSON of a sum: past 64 bits it is the text of its digits
abbrev pub total_json : ℤ → Data
total_json n = if int_le (negsuc (2 ^ 63 - 1)) n && int_le n (pos (2 ^ 63 - 1)) then number (of_integer n) else string (signed_decimal n)

-- the JSON of a number, of none `false`
abbrev pub number_or_false : Option ℤ → Data
number_or_false None = boolean false
number_or_false (Some n) = number (of_integer n)

-- this is told of what the rows of a group hold
abbrev pub TellsAmount : Amount → List Value → Data → Type 0
TellsAmount amount.Sum vs d = d ≡ total_json (total vs)
TellsAmount amount.Least vs d = d ≡ number_or_false (least vs)
TellsAmount amount.Greatest vs d = d ≡ number_or_false (greatest vs)
TellsAmount amount.Count vs d = d ≡ number_json (length (set_values vs))
TellsAmount amount.CountDistinct vs d = (distinct : List Value) × AreDistinct unset_last (set_values vs) distinct × (d ≡ number_json (length distinct))
