-- Whether a field can hold a value: texts have a limit by the field's type.
use Rattle.std.specs.Prelude.{ℕ, nat_le, length, if◌then◌else◌, Bool, true, Result, Ok, Err}
use Rattle.ob_base.specs.Limits.{max_char_bytes, max_text_bytes}
use Rattle.ob_base.specs.declared.value.Value.{Value}
use Rattle.ob_base.specs.declared.value.Value.TheVariants as value
use Rattle.ob_definition.specs.declared.field_type.FieldType.{FieldType}
use Rattle.ob_definition.specs.declared.field_type.FieldType.TheVariants as type
use Rattle.ob_expr.specs.Chain.{and_then}
use Rattle.ob_expr.specs.Computing.{Lack, too_long}

-- whether a value is no text of more bytes than this
abbrev pub is_short : ℕ → Value → Bool
is_short limit (value.Word text) = nat_le (length text) limit
is_short limit _ = true

-- how many bytes a text of the type may have
abbrev pub text_limit : FieldType → ℕ
text_limit type.Text = max_text_bytes
text_limit _ = max_char_bytes

-- a value that a field of the type may hold, or that it is too long
abbrev pub limited : FieldType → Result Value Lack → Result Value Lack
limited t meant = and_then meant (λ v. if is_short (text_limit t) v then Ok v else Err too_long)
