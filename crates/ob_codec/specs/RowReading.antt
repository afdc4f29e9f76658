-- Reading the fields of a row, and the whole of its body.
use Rattle.std.specs.Prelude.{ℕ, List, [], ◌∷◌, length, Option, Some, None, option_and_then, ◌==◌, if◌then◌else◌}
use Rattle.ob_base.specs.declared.value.Value.{Value}
use Rattle.ob_base.specs.declared.value.Value.TheVariants.{Nil}
use Rattle.ob_definition.specs.declared.field_type.Choice.{Choice}
use Rattle.ob_definition.specs.declared.field_type.FieldType.{FieldType}
use Rattle.ob_schema.specs.declared.info.FieldInfo.{FieldInfo}
use Rattle.ob_codec.specs.KeptReading.{body_fields, body_named}
use Rattle.ob_codec.specs.ValueReading.{tag_of, has_unset, body_content}

-- a value after its tag, by the type of the field
unfoldable pub body_tagged : FieldType → List Choice → ℕ → List ℕ → Option (Value × List ℕ)
body_tagged t choices tag bytes = if tag == 0 then (if has_unset t then Some (Nil, bytes) else None) else (if tag == tag_of t then body_content t choices bytes else None)

-- the value of a field
unfoldable pub body_field : FieldInfo → List ℕ → Option (Value × List ℕ)
body_field field bytes = option_and_then (λ tagged. body_tagged field.field_type field.selection tagged.0 tagged.1) (body_named field.name bytes)

-- the values of these fields one after the other, and nothing after them
unfoldable pub body_values : List FieldInfo → List ℕ → Option (List Value)
body_values [] bytes = if length bytes == 0 then Some [] else None
body_values (field ∷ fields) bytes =
    option_and_then (λ v. option_and_then (λ values. Some (v.0 ∷ values)) (body_values fields v.1)) (body_field field bytes)

-- the values of a row that has these fields, from the whole of its body
unfoldable pub body_row : List FieldInfo → List ℕ → Option (List Value)
body_row fields body = option_and_then (λ rest. body_values fields rest) (body_fields (length fields) body)
