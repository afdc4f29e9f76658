-- The one order of all values: by variant, then by content.
use Rattle.std.specs.Prelude.{ℕ, ℤ, pos, List, [], map, if◌then◌else◌}
use Rattle.std.specs.declared.cmp.Ordering.{Ordering}
use Rattle.std.specs.Ordering.{nat_cmp, int_cmp, then_cmp, on}
use Rattle.std.specs.Cmp.Lexicographic.{slice_cmp}
use Rattle.ob_base.specs.declared.value.Value.{Value}
use Rattle.ob_base.specs.declared.value.Value.TheVariants.{Nil, Bool as Flag, Int, Word, Day, Moment, Ref, Refs}

-- the place of the variant, in the order in which they are declared
abbrev pub variant_of : Value → ℕ
variant_of Nil = 0
variant_of (Flag b) = 1
variant_of (Int n) = 2
variant_of (Word bytes) = 3
variant_of (Day n) = 4
variant_of (Moment n) = 5
variant_of (Ref id) = 6
variant_of (Refs ids) = 7

-- the number that a value holds, where it holds one; false is below true
abbrev pub integer_of : Value → ℤ
integer_of Nil = pos 0
integer_of (Flag b) = if b then pos 1 else pos 0
integer_of (Int n) = n
integer_of (Word bytes) = pos 0
integer_of (Day n) = n
integer_of (Moment n) = n
integer_of (Ref id) = pos id.0
integer_of (Refs ids) = pos 0

-- the list that a value holds, where it holds one: a text's bytes, a list's ids
abbrev pub list_of : Value → List ℕ
list_of Nil = []
list_of (Flag b) = []
list_of (Int n) = []
list_of (Word bytes) = bytes
list_of (Day n) = []
list_of (Moment n) = []
list_of (Ref id) = []
list_of (Refs ids) = map (λ id. id.0) ids

-- by variant, then by number, then by list, an item at a time
abbrev pub value_order : Value → Value → Ordering
value_order = then_cmp (on variant_of nat_cmp) (then_cmp (on integer_of int_cmp) (on list_of (slice_cmp nat_cmp)))
