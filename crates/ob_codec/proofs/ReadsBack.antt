-- What a reply tells of a value gives the value back.
use Rattle.std.proofs.Common.{◌≡◌, ℕ, ◌≤◌, ◌-◌, ◌^◌, [], ℤ, Bool, true, false, true≢false, cond, ◌&&◌, List, Option, Result, Ok, Err, refl, ap, ◌∙◌, arith}
use Rattle.std.specs.Prelude.{length, pos, negsuc, nat_le}
use Rattle.std.specs.Int.{w64}
use Rattle.std.specs.Int.RustNames.{FitsSigned}
use Rattle.std.specs.List.{list_any}
use Rattle.std.specs.Str.{bytes_eq}
use Rattle.std.proofs.lemmas.Bool.{le-leb}
use Rattle.std.proofs.lemmas.Int.{ints}
use Rattle.serde_json.specs.Data.{Data, boolean, unsigned}
use Rattle.serde_json.specs.Find.{of_integer}
use Rattle.ob_base.specs.Ids.{IsId}
use Rattle.ob_base.specs.declared.id.RecId.{RecId}
use Rattle.ob_base.specs.declared.value.Value.{Value}
use Rattle.ob_base.specs.declared.value.Value.TheVariants as value
use Rattle.ob_definition.specs.Types.{is_list}
use Rattle.ob_definition.specs.Values.{IsKey, IsValueOf, keys_of}
use Rattle.ob_definition.specs.declared.field_type.Choice.{Choice}
use Rattle.ob_definition.specs.declared.field_type.FieldType.{FieldType}
use Rattle.ob_definition.specs.declared.field_type.FieldType.TheVariants as type
use Rattle.ob_codec.specs.Commands.{id_of_number}
use Rattle.ob_codec.specs.JsonForm.{IsJsonOf, integer_of, key_of, number_value, spelled, text_of, text_value, true_value, value_from}
use Rattle.ob_base.specs.Chain.{◌>>=◌}
use Rattle.ob_codec.specs.declared.fault.CodecFault.{CodecFault}
use Rattle.ob_codec.specs.declared.fault.CodecFault.TheVariants as fault
use Rattle.ob_codec.proofs.Keys.{key_found}

flag_back : (choices : List Choice) (b : Bool) → value_from type.Boolean choices (boolean b) ≡ Ok (value.Bool b)
unfolding value_from true_value
flag_back choices true = refl
flag_back choices false = refl

integer_back : (z : ℤ) → FitsSigned w64 z → integer_of (of_integer z) ≡ Ok z
unfolding integer_of
integer_back (pos n) fits =
    let small : n ≤ 2 ^ 63 - 1 = omega (arith, ints) in
    ap (λ (b : Bool). cond b (Ok (pos n)) (Err (fault.Range []))) (le-leb n (2 ^ 63 - 1) small)
integer_back (negsuc n) fits = refl

text_back : (limit : ℕ) (text : List ℕ) → length text ≤ limit → text_of limit text ≡ Ok text
unfolding text_of
text_back limit text short = ap (λ (b : Bool). cond b (Ok text) (Err (fault.Range []))) (le-leb (length text) limit short)

key_back : (choices : List Choice) (text : List ℕ) → IsKey choices text → key_of choices text ≡ Ok text
unfolding key_of
key_back choices text key =
    ap (λ (r : Result (List ℕ) CodecFault). r >>= λ k. cond (list_any (bytes_eq k) (keys_of choices)) (Ok k) (Err (fault.Unknown []))) (text_back 8192 text key.short)
    ∙ ap (λ (b : Bool). cond b (Ok text) (Err (fault.Unknown []))) (key_found text (keys_of choices) key.declared)

id_back : (id : RecId) → IsId id → id_of_number [] (unsigned id.0) ≡ Ok id
unfolding id_of_number
id_back id within =
    ap (λ (b : Bool). cond (b && nat_le id.0 4294967295) (Ok id) (Err (fault.Range []))) (le-leb 1 id.0 within.0)
    ∙ ap (λ (b : Bool). cond b (Ok id) (Err (fault.Range []))) (le-leb id.0 4294967295 within.1)

-- a value by the text that a step reads it from
word_back : (r : Result (List ℕ) CodecFault) (text : List ℕ) → r ≡ Ok text → (r >>= λ word. Ok (value.Word word)) ≡ Ok (value.Word text)
word_back r text e = ap (λ (s : Result (List ℕ) CodecFault). s >>= λ word. Ok (value.Word word)) e

pub reads_back : (t : FieldType) (choices : List Choice) (v : Value) (d : Data) → is_list t ≡ false → IsValueOf t choices v → IsJsonOf v d → value_from t choices d ≡ Ok v
unfolding value_from number_value text_value
reads_back type.Boolean choices (value.Bool b) d scalar holds told = ap (value_from type.Boolean choices) told ∙ flag_back choices b
reads_back type.Integer choices (value.Int n) d scalar holds told =
    ap (value_from type.Integer choices) told ∙ ap (λ (r : Result ℤ CodecFault). r >>= λ z. Ok (value.Int z)) (integer_back n holds)
reads_back type.Char choices value.Nil d scalar holds told = ap (value_from type.Char choices) told
reads_back type.Char choices (value.Word text) d scalar holds told = ap (value_from type.Char choices) told ∙ word_back _ text (text_back 8192 text holds.short)
reads_back type.Text choices value.Nil d scalar holds told = ap (value_from type.Text choices) told
reads_back type.Text choices (value.Word text) d scalar holds told = ap (value_from type.Text choices) told ∙ word_back _ text (text_back 65536 text holds.short)
reads_back type.Date choices value.Nil d scalar holds told = ap (value_from type.Date choices) told
reads_back type.Date choices (value.Day n) d scalar holds told =
    ap (value_from type.Date choices) told.1 ∙ ap (λ (o : Option ℤ). spelled o >>= λ day. Ok (value.Day day)) told.2
reads_back type.Datetime choices value.Nil d scalar holds told = ap (value_from type.Datetime choices) told
reads_back type.Datetime choices (value.Moment n) d scalar holds told =
    ap (value_from type.Datetime choices) told.1 ∙ ap (λ (o : Option ℤ). spelled o >>= λ moment. Ok (value.Moment moment)) told.2
reads_back type.Selection choices value.Nil d scalar holds told = ap (value_from type.Selection choices) told
reads_back type.Selection choices (value.Word text) d scalar holds told = ap (value_from type.Selection choices) told ∙ word_back _ text (key_back choices text holds)
reads_back type.Many2one choices value.Nil d scalar holds told = ap (value_from type.Many2one choices) told
reads_back type.Many2one choices (value.Ref id) d scalar holds told =
    ap (value_from type.Many2one choices) told ∙ ap (λ (r : Result RecId CodecFault). r >>= λ i. Ok (value.Ref i)) (id_back id holds)
reads_back type.One2many choices v d scalar holds told = absurd (true≢false scalar)
reads_back type.Many2many choices v d scalar holds told = absurd (true≢false scalar)
reads_back _ choices _ d scalar holds told = absurd holds
