-- Private: what the rows of groups hold, as the code has it.
use Rattle.std.specs.Prelude.{◌≡◌, ◌++◌, ℕ, List, map, length, false, Vec}
use Rattle.std.specs.Global.{Global}
use Rattle.std.specs.List.{slice_index_or}
use Rattle.ob_base.specs.declared.value.Value.{Value}
use Rattle.ob_base.specs.declared.value.Value.TheVariants as value
use Rattle.ob_group.specs.GroupAmounts.{AreDistinct}
use Rattle.ob_query.specs.SearchOrder.{unset_last}

-- what rows hold at a number
abbrev pub column_of : ℕ → List (Vec Value Global) → List Value
column_of number rows = map (λ row. slice_index_or row.items number value.Nil) rows

-- so many different values there are
abbrev pub IsDistinctCount : List Value → ℕ → Type 0
IsDistinctCount vs n = (distinct : List Value) × AreDistinct unset_last vs distinct × (n ≡ length distinct)
