-- Reading parts of a row's body from the left: the part and the bytes after it, or None where no such part stands there.
use Rattle.std.specs.Prelude.{◌≡◌, ℕ, List, [], ◌∷◌, length, take, drop, Option, Some, None, option_and_then, Result, Ok, Err, nat_lt, nat_le, ◌==◌, ◌&&◌, if◌then◌else◌, ⊤}
use Rattle.std.specs.Int.{Width, w16, w32, byte_len, from_be_bytes}
use Rattle.std.specs.Str.{bytes_eq, is_utf8}
use Rattle.ob_codec.specs.declared.fault.RowFault.{RowFault}
use Rattle.ob_codec.specs.declared.fault.RowFault.TheVariants as fault

-- `Bad` comes where nothing was read, and `NoMemory` at any time
abbrev pub IsRowFault : {Y : Type 0} → RowFault → Option Y → Type 0
IsRowFault fault.Bad read = read ≡ None
IsRowFault fault.NoMemory read = ⊤

-- what a function answered, seen by view, is what was read, unless memory ran out
abbrev pub IsRowResult : {X Y : Type 0} → (X → Y) → Result X RowFault → Option Y → Type 0
IsRowResult view (Ok x) read = read ≡ Some (view x)
IsRowResult view (Err e) read = IsRowFault e read

-- one byte
abbrev pub first_byte : List ℕ → Option (ℕ × List ℕ)
first_byte [] = None
first_byte (b ∷ rest) = Some (b, rest)

-- the next n bytes
abbrev pub body_part : ℕ → List ℕ → Option (List ℕ × List ℕ)
body_part n bytes = if nat_lt (length bytes) n then None else Some (take n bytes, drop n bytes)

-- the bytes after this front
abbrev pub body_front : List ℕ → List ℕ → Option (List ℕ)
body_front front bytes = if bytes_eq (take (length front) bytes) front then Some (drop (length front) bytes) else None

-- an unsigned number of this width
abbrev pub body_number : Width → List ℕ → Option (ℕ × List ℕ)
body_number w bytes = if nat_lt (length bytes) (byte_len w) then None else Some (from_be_bytes w (take (byte_len w) bytes), drop (byte_len w) bytes)

-- the fields of a body of version 1 that has so many: first the version, then the number
unfoldable pub body_fields : ℕ → List ℕ → Option (List ℕ)
body_fields count bytes =
    option_and_then (λ version. option_and_then (λ found.
    if version.0 == 1 && found.0 == count then Some found.1 else None) (body_number w16 version.1)) (first_byte bytes)

-- the tag of a field of this name, and its content: the name's length and the name come first
unfoldable pub body_named : List ℕ → List ℕ → Option (ℕ × List ℕ)
body_named name bytes =
    option_and_then (λ len. option_and_then (λ rest.
    if len.0 == length name then first_byte rest else None) (body_front name len.1)) (first_byte bytes)

-- bytes of this limit, after their length
unfoldable pub body_counted : ℕ → List ℕ → Option (List ℕ × List ℕ)
body_counted limit bytes = option_and_then (λ len. if nat_le len.0 limit then body_part len.0 len.1 else None) (body_number w32 bytes)

-- a text of this limit: its length, and UTF-8
unfoldable pub body_text : ℕ → List ℕ → Option (List ℕ × List ℕ)
body_text limit bytes = option_and_then (λ text. if is_utf8 text.0 then Some text else None) (body_counted limit bytes)
