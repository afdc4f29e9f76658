-- Reading the content of a field's value: the value, which the field may hold, and the bytes after it.
use Rattle.std.specs.Prelude.{ℕ, zero, suc, List, [], ◌∷◌, Bool, true, false, Option, Some, None, option_and_then, nat_lt, nat_le, ◌==◌, ◌&&◌, if◌then◌else◌}
use Rattle.std.specs.Int.{w32, w64, cast_signed}
use Rattle.std.specs.List.{list_any}
use Rattle.std.specs.Str.{bytes_eq}
use Rattle.ob_base.specs.Limits.{max_char_bytes, max_id, max_targets, max_text_bytes}
use Rattle.ob_base.specs.Times.{is_day, is_moment}
use Rattle.ob_base.specs.declared.id.RecId.{RecId}
use Rattle.ob_base.specs.declared.value.Value.{Value}
use Rattle.ob_base.specs.declared.value.Value.TheVariants as value
use Rattle.ob_definition.specs.Values.{keys_of}
use Rattle.ob_definition.specs.declared.field_type.Choice.{Choice}
use Rattle.ob_definition.specs.declared.field_type.FieldType.{FieldType}
use Rattle.ob_definition.specs.declared.field_type.FieldType.TheVariants as type
use Rattle.ob_codec.specs.KeptReading.{first_byte, body_number, body_counted, body_text}

-- the tag of a value that is set: 3 of each text, 7 of each list of rows
abbrev pub tag_of : FieldType → ℕ
tag_of type.Boolean = 1
tag_of type.Integer = 2
tag_of type.Date = 4
tag_of type.Datetime = 5
tag_of type.Many2one = 6
tag_of type.One2many = 7
tag_of type.Many2many = 7
tag_of _ = 3

-- a value of the type may be unset
abbrev pub has_unset : FieldType → Bool
has_unset type.Boolean = false
has_unset type.Integer = false
has_unset type.One2many = false
has_unset type.Many2many = false
has_unset _ = true

-- a boolean: one byte 0 or 1
unfoldable pub body_flag : List ℕ → Option (Value × List ℕ)
body_flag bytes =
    option_and_then (λ byte.
    if byte.0 == 0 then Some (value.Bool false, byte.1) else if byte.0 == 1 then Some (value.Bool true, byte.1) else None) (first_byte bytes)

-- an integer
unfoldable pub body_integer : List ℕ → Option (Value × List ℕ)
body_integer bytes = option_and_then (λ n. Some (value.Int (cast_signed w64 n.0), n.1)) (body_number w64 bytes)

-- a text of this limit
unfoldable pub body_word : ℕ → List ℕ → Option (Value × List ℕ)
body_word limit bytes = option_and_then (λ text. Some (value.Word text.0, text.1)) (body_text limit bytes)

-- one of the keys
unfoldable pub body_key : List Choice → List ℕ → Option (Value × List ℕ)
body_key choices bytes =
    option_and_then (λ text.
    if list_any (bytes_eq text.0) (keys_of choices) then Some (value.Word text.0, text.1) else None) (body_counted max_char_bytes bytes)

-- a day of the years 0001 to 9999
unfoldable pub body_day : List ℕ → Option (Value × List ℕ)
body_day bytes =
    option_and_then (λ n.
    if is_day (cast_signed w32 n.0) then Some (value.Day (cast_signed w32 n.0), n.1) else None) (body_number w32 bytes)

-- a second of the years 0001 to 9999
unfoldable pub body_moment : List ℕ → Option (Value × List ℕ)
body_moment bytes =
    option_and_then (λ n.
    if is_moment (cast_signed w64 n.0) then Some (value.Moment (cast_signed w64 n.0), n.1) else None) (body_number w64 bytes)

-- an id above this one
unfoldable pub body_id : ℕ → List ℕ → Option (RecId × List ℕ)
body_id before bytes =
    option_and_then (λ n.
    if nat_lt before n.0 && nat_le n.0 max_id then Some (record { 0 = n.0 }, n.1) else None) (body_number w64 bytes)

-- a row
unfoldable pub body_row_id : List ℕ → Option (Value × List ℕ)
body_row_id bytes = option_and_then (λ id. Some (value.Ref id.0, id.1)) (body_id 0 bytes)

-- so many ids that rise, the first above this one
unfoldable pub body_ids : ℕ → ℕ → List ℕ → Option (List RecId × List ℕ)
body_ids zero before bytes = Some ([], bytes)
body_ids (suc n) before bytes =
    option_and_then (λ id. option_and_then (λ ids. Some (id.0 ∷ ids.0, ids.1)) (body_ids n id.0.0 id.1)) (body_id before bytes)

-- the rows of a list, no more than this limit
unfoldable pub body_rows : ℕ → List ℕ → Option (Value × List ℕ)
body_rows limit bytes =
    option_and_then (λ count.
    if nat_le count.0 limit then option_and_then (λ ids. Some (value.Refs ids.0, ids.1)) (body_ids count.0 0 count.1) else None) (body_number w32 bytes)

-- a value that is set, by the type of the field; a one2many has no more rows than there are ids
abbrev pub body_content : FieldType → List Choice → List ℕ → Option (Value × List ℕ)
body_content type.Boolean choices bytes = body_flag bytes
body_content type.Integer choices bytes = body_integer bytes
body_content type.Char choices bytes = body_word max_char_bytes bytes
body_content type.Text choices bytes = body_word max_text_bytes bytes
body_content type.Date choices bytes = body_day bytes
body_content type.Datetime choices bytes = body_moment bytes
body_content type.Selection choices bytes = body_key choices bytes
body_content type.Many2one choices bytes = body_row_id bytes
body_content type.One2many choices bytes = body_rows max_id bytes
body_content type.Many2many choices bytes = body_rows max_targets bytes
