-- What operands stand for, by the type of the field.
use Rattle.std.specs.Prelude.{ℕ, ◌&&◌, ◌||◌, List, [], ◌∷◌, codes, ℤ, pos, ◌+ℤ◌, ◌*ℤ◌, Bool, true, false, Option, option_map, is_some, ok_or, Result, Ok, Err, if◌then◌else◌}
use Rattle.std.specs.Str.{bytes_eq}
use Rattle.ob_base.specs.Chain.{◌>>=◌}
use Rattle.ob_base.specs.declared.value.Value.{Value}
use Rattle.ob_base.specs.declared.value.Value.TheVariants as value
use Rattle.ob_dates.specs.Texts.{day_from, moment_from}
use Rattle.ob_definition.specs.Types.{is_list, is_relation}
use Rattle.ob_definition.specs.Values.{initial_value}
use Rattle.ob_definition.specs.declared.field_type.FieldType.{FieldType}
use Rattle.ob_definition.specs.declared.field_type.FieldType.TheVariants as type
use Rattle.ob_domain.specs.declared.fault.Unfit.{Unfit}
use Rattle.ob_domain.specs.declared.fault.Unfit.TheVariants as unfit
use Rattle.ob_domain.specs.declared.operand.Second.{Second}
use Rattle.ob_domain.specs.declared.operand.Second.TheVariants.{First, Last}
use Rattle.ob_domain.specs.declared.term.Operand.{Operand}
use Rattle.ob_domain.specs.declared.term.Operand.TheVariants as operand
use Rattle.ob_schema.specs.Models.{is_id_from}
use Rattle.ob_schema.specs.declared.info.FieldInfo.{FieldInfo}
use Rattle.serde_json.specs.Data.{Data, null, boolean, number, string, array, object, Items, no_items, item, no_members, member, Num}
use Rattle.serde_json.specs.Find.{as_i64}

-- the items of a list
abbrev pub listed : Items → List Data
listed no_items = []
listed (item d ds) = d ∷ listed ds

-- what each item gives, or the first that gives nothing
abbrev pub each_of : {A B : Type 0} → (A → Result B Unfit) → List A → Result (List B) Unfit
each_of form [] = Ok []
each_of form (x ∷ xs) = do
  y ← form x
  ys ← each_of form xs
  Ok (y ∷ ys)

-- an id or an integer fits a field of the type
abbrev pub has_numbers : FieldType → Bool
has_numbers type.Integer = true
has_numbers t = is_relation t

-- {"user":"id"}: the caller's id
abbrev pub is_user : Data → Bool
is_user (object (member key (string text) no_members)) = bytes_eq key (codes "user") && bytes_eq text (codes "id")
is_user _ = false

-- what `false` and `null` stand for: what the field has without a value of its own; of a list they are unset, and so is an id, which no row's is
abbrev pub unset_value : FieldInfo → Value
unset_value field = if is_id_from field.origin || is_list field.field_type then value.Nil else initial_value field.field_type

-- an integer of 64 bits
abbrev pub integer_from : Num → Result Value Unfit
integer_from n = ok_or (option_map value.Int (as_i64 n)) unfit.Operand

-- the first and the last second of a day
abbrev pub second_of : Second → ℕ
second_of First = 0
second_of Last = 86399

-- the moment that a text names; a date alone stands for a second of its day
abbrev pub moment_or_day : Second → List ℕ → Option ℤ
moment_or_day second text =
    if is_some (moment_from text) then moment_from text
    else option_map (λ day. day *ℤ pos 86400 +ℤ pos (second_of second)) (day_from text)

-- `true` is a boolean alone
abbrev pub truth_value : FieldType → Result Value Unfit
truth_value type.Boolean = Ok (value.Bool true)
truth_value _ = Err unfit.Operand

abbrev pub number_value : FieldType → Num → Result Value Unfit
number_value t n = if has_numbers t then integer_from n else Err unfit.Operand

-- a text of any length; of a selection, whether or not it is a key
abbrev pub text_value : FieldType → Second → List ℕ → Result Value Unfit
text_value type.Char second text = Ok (value.Word text)
text_value type.Text second text = Ok (value.Word text)
text_value type.Selection second text = Ok (value.Word text)
text_value type.Date second text = ok_or (option_map value.Day (day_from text)) unfit.Operand
text_value type.Datetime second text = ok_or (option_map value.Moment (moment_or_day second text)) unfit.Operand
text_value _ second text = Err unfit.Operand

-- the value that JSON is for a field
abbrev pub value_from : FieldInfo → Second → Data → Result Value Unfit
value_from field second null = Ok (unset_value field)
value_from field second (boolean b) = if b then truth_value field.field_type else Ok (unset_value field)
value_from field second (number n) = number_value field.field_type n
value_from field second (string text) = text_value field.field_type second text
value_from field second _ = Err unfit.Operand

-- the operand that JSON is as a whole
abbrev pub whole_from : FieldInfo → Second → Data → Result Operand Unfit
whole_from field second d =
    if has_numbers field.field_type && is_user d then Ok operand.User
    else (value_from field second d >>= λ v. Ok (operand.Value v))

-- the operand that an item of a list is
abbrev pub item_from : FieldInfo → Data → Result Operand Unfit
item_from field d = value_from field First d >>= λ v. Ok (operand.Value v)

-- the operands that the items of a list are
abbrev pub list_from : FieldInfo → Data → Result (List Operand) Unfit
list_from field (array ds) = each_of (item_from field) (listed ds)
list_from field _ = Err unfit.Operand

-- a row by its number
abbrev pub node_value : Data → Result Value Unfit
node_value (number n) = integer_from n
node_value _ = Err unfit.Operand

abbrev pub node_from : Data → Result Operand Unfit
node_from d = node_value d >>= λ v. Ok (operand.Value v)

-- one row, or none by `false`
abbrev pub one_node : Data → Result (List Operand) Unfit
one_node d = if is_user d then Ok (operand.User ∷ []) else (node_from d >>= λ node. Ok (node ∷ []))

-- the rows that JSON names in a tree: a list of them, one, or none by `false`
abbrev pub nodes_from : Data → Result (List Operand) Unfit
nodes_from (boolean b) = if b then Err unfit.Operand else Ok []
nodes_from (array ds) = each_of node_from (listed ds)
nodes_from d = one_node d
