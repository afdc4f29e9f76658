-- Whether a value passes the test of a criterion. An operator that is added has its meaning here.
use Rattle.std.specs.Prelude.{ℕ, ◌==◌, ◌&&◌, decimal, List, [], ◌∷◌, map, chars, flat_map, pos, Bool, true, false, not}
use Rattle.std.specs.List.{list_any, slice_split}
use Rattle.std.specs.Ordering.{is_eq, is_lt, is_le, is_gt, is_ge}
use Rattle.std.specs.Str.{bytes_eq}
use Rattle.std.specs.declared.cmp.Ordering.{Ordering}
use Rattle.ob_base.specs.ValueOrder.{value_order}
use Rattle.ob_base.specs.declared.id.RecId.{RecId}
use Rattle.ob_base.specs.declared.value.Value.{Value}
use Rattle.ob_base.specs.declared.value.Value.TheVariants as value
use Rattle.ob_domain.specs.Patterns.{folded, matches}
use Rattle.ob_domain.specs.declared.operator.Comparison.{Comparison}
use Rattle.ob_domain.specs.declared.operator.Comparison.TheVariants as comparison
use Rattle.ob_domain.specs.declared.term.Operand.{Operand}
use Rattle.ob_domain.specs.declared.term.Operand.TheVariants as operand
use Rattle.ob_domain.specs.declared.term.Pattern.{Pattern}

-- the number of a row, as a value
abbrev pub id_value : RecId → Value
id_value id = value.Int (pos id.0)

-- what an operand stands for when a user calls
abbrev pub operand_value : RecId → Operand → Value
operand_value user operand.User = id_value user
operand_value user (operand.Value v) = v

-- a reference counts as the number of its row
abbrev pub seen : Value → Value
seen (value.Ref id) = id_value id
seen v = v

-- how a value stands to an operand
abbrev pub order_of : Value → Operand → RecId → Ordering
order_of v o user = value_order (seen v) (operand_value user o)

abbrev pub is_unset : Value → Bool
is_unset value.Nil = true
is_unset _ = false

-- what a value is one of: of a list each row that it names, or unset where it is empty
abbrev pub members_of : Value → List Value
members_of (value.Refs []) = value.Nil ∷ []
members_of (value.Refs ids) = map value.Ref ids
members_of v = v ∷ []

-- a value is one of the operands
abbrev pub is_among : List Operand → RecId → Value → Bool
is_among operands user v = list_any (λ o. is_eq (order_of v o user)) operands

-- the same; of a list, one of its members is
abbrev pub is_one_of : List Operand → RecId → Value → Bool
is_one_of operands user v = list_any (is_among operands user) (members_of v)

abbrev pub has_order : Comparison → Ordering → Bool
has_order comparison.Less o = is_lt o
has_order comparison.LessOrEqual o = is_le o
has_order comparison.Greater o = is_gt o
has_order comparison.GreaterOrEqual o = is_ge o

-- both are set, and the value stands so to the operand
abbrev pub compares : Comparison → Operand → RecId → Value → Bool
compares how o user v = not (is_unset v) && not (is_unset (operand_value user o)) && has_order how (order_of v o user)

-- a text that matches; an unset value doesn't
abbrev pub matches_value : Pattern → Value → Bool
matches_value pattern (value.Word text) = matches pattern.characters (folded pattern.folds (chars text))
matches_value pattern _ = false

-- the rows that a value names; an id, and a number that stands for one, names its row
abbrev pub targets_of : Value → List RecId
targets_of (value.Ref id) = id ∷ []
targets_of (value.Refs ids) = ids
targets_of (value.Int (pos n)) = record { 0 = n } ∷ []
targets_of _ = []

-- the rows that operands name
abbrev pub rows_named : RecId → List Operand → List RecId
rows_named user operands = flat_map (λ o. targets_of (operand_value user o)) operands

-- the text is one of the parts of a path, with slashes between them
abbrev pub is_part : List ℕ → List ℕ → Bool
is_part text path = list_any (bytes_eq text) (slice_split (λ b. b == 47) path)

abbrev pub part_of_path : List ℕ → Value → Bool
part_of_path text (value.Word path) = is_part text path
part_of_path text _ = false

-- the id stands in a path, whose parts are ids
abbrev pub is_in_path : RecId → Value → Bool
is_in_path id path = part_of_path (decimal id.0) path
