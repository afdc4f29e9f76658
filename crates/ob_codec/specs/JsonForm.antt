-- Values in JSON, by the type of the field.
use Rattle.std.specs.Prelude.{◌≡◌, ℕ, nat_le, ◌^◌, ◌-◌, List, [], length, map, ℤ, pos, if◌then◌else◌, true, false, Option, Some, None, Result, Ok, Err}
use Rattle.std.specs.List.{list_any}
use Rattle.std.specs.Str.{bytes_eq}
use Rattle.ob_base.specs.Chain.{◌>>=◌}
use Rattle.ob_base.specs.Limits.{max_char_bytes, max_text_bytes}
use Rattle.ob_base.specs.declared.value.Value.{Value}
use Rattle.ob_base.specs.declared.value.Value.TheVariants as value
use Rattle.ob_codec.specs.CommandForms.{id_json, list_json}
use Rattle.ob_codec.specs.Commands.{id_of_number, orders_of}
use Rattle.ob_codec.specs.Input.{order_of}
use Rattle.ob_codec.specs.declared.fault.CodecFault.{CodecFault}
use Rattle.ob_codec.specs.declared.fault.CodecFault.TheVariants as fault
use Rattle.ob_codec.specs.declared.input.Input.{Input}
use Rattle.ob_codec.specs.declared.input.Input.TheVariants as input
use Rattle.ob_dates.specs.Texts.{day_from, moment_from}
use Rattle.ob_definition.specs.Types.{is_list}
use Rattle.ob_definition.specs.Values.{initial_value, keys_of}
use Rattle.ob_definition.specs.declared.field_type.Choice.{Choice}
use Rattle.ob_definition.specs.declared.field_type.FieldType.{FieldType}
use Rattle.ob_definition.specs.declared.field_type.FieldType.TheVariants as type
use Rattle.serde_json.specs.Data.{Data, null, boolean, number, string, Num, unsigned, negative, float}
use Rattle.serde_json.specs.Find.{of_integer}

-- an integer of 64 bits
unfoldable pub integer_of : Num → Result ℤ CodecFault
integer_of (unsigned n) = if nat_le n (2 ^ 63 - 1) then Ok (pos n) else Err (fault.Range [])
integer_of (negative z) = Ok z
integer_of (float _) = Err (fault.Shape [])

-- a text of so many bytes at most
unfoldable pub text_of : ℕ → List ℕ → Result (List ℕ) CodecFault
text_of limit text = if nat_le (length text) limit then Ok text else Err (fault.Range [])

-- one of the keys of a selection; the limit of a char comes first
unfoldable pub key_of : List Choice → List ℕ → Result (List ℕ) CodecFault
key_of choices text = text_of max_char_bytes text >>= λ key. if list_any (bytes_eq key) (keys_of choices) then Ok key else Err (fault.Unknown [])

-- what a text may spell
abbrev pub spelled : {A : Type 0} → Option A → Result A CodecFault
spelled None = Err (fault.Range [])
spelled (Some x) = Ok x

-- a number, by the type of the field
unfoldable pub number_value : FieldType → Num → Result Value CodecFault
number_value type.Integer n = integer_of n >>= λ z. Ok (value.Int z)
number_value type.Many2one n = id_of_number [] n >>= λ id. Ok (value.Ref id)
number_value _ n = Err (fault.Shape [])

-- a text, by the type of the field
unfoldable pub text_value : FieldType → List Choice → List ℕ → Result Value CodecFault
text_value type.Char choices text = text_of max_char_bytes text >>= λ word. Ok (value.Word word)
text_value type.Text choices text = text_of max_text_bytes text >>= λ word. Ok (value.Word word)
text_value type.Date choices text = spelled (day_from text) >>= λ day. Ok (value.Day day)
text_value type.Datetime choices text = spelled (moment_from text) >>= λ moment. Ok (value.Moment moment)
text_value type.Selection choices text = key_of choices text >>= λ key. Ok (value.Word key)
text_value _ choices text = Err (fault.Shape [])

-- what `false` and `null` stand for: a boolean is false, an integer 0, all else unset
abbrev pub empty_value : FieldType → Value
empty_value type.Boolean = value.Bool false
empty_value type.Integer = value.Int (pos 0)
empty_value _ = value.Nil

-- `true` is a boolean alone
unfoldable pub true_value : FieldType → Result Value CodecFault
true_value type.Boolean = Ok (value.Bool true)
true_value _ = Err (fault.Shape [])

-- the value that JSON gives a field of this type that is no list; `false` and `null` give what the field has without a value of its own
unfoldable pub value_from : FieldType → List Choice → Data → Result Value CodecFault
value_from t choices null = Ok (initial_value t)
value_from t choices (boolean b) = if b then true_value t else Ok (initial_value t)
value_from t choices (number n) = number_value t n
value_from t choices (string text) = text_value t choices text
value_from t choices _ = Err (fault.Shape [])

-- what JSON gives a field: commands where it is a list, else a value
abbrev pub IsInput : FieldType → List Choice → Data → Input → Type 0
IsInput t choices d (input.Plain v) = (is_list t ≡ false) × (value_from t choices d ≡ Ok v)
IsInput t choices d (input.Commands commands) = (is_list t ≡ true) × (orders_of d ≡ Ok (map order_of commands))

-- the fault for which JSON gives a field nothing
pub record IsInputFault (t : FieldType) (choices : List Choice) (d : Data) (why : CodecFault) : Type 0 where
  pub value : is_list t ≡ false → value_from t choices d ≡ Err why
  pub commands : is_list t ≡ true → orders_of d ≡ Err why

-- the JSON of a value: unset is false, a date and a moment are the texts that name them
abbrev pub IsJsonOf : Value → Data → Type 0
IsJsonOf value.Nil d = d ≡ boolean false
IsJsonOf (value.Bool b) d = d ≡ boolean b
IsJsonOf (value.Int n) d = d ≡ number (of_integer n)
IsJsonOf (value.Word text) d = d ≡ string text
IsJsonOf (value.Day n) d = (text : List ℕ) × (d ≡ string text) × (day_from text ≡ Some n)
IsJsonOf (value.Moment n) d = (text : List ℕ) × (d ≡ string text) × (moment_from text ≡ Some n)
IsJsonOf (value.Ref id) d = d ≡ id_json id
IsJsonOf (value.Refs ids) d = d ≡ list_json (map id_json ids)
