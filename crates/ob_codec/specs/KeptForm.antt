-- The kept form of a row, version 1. Numbers are big-endian.
use Rattle.std.specs.Prelude.{ℕ, ◌<◌, ◌^◌, List, [], ◌∷◌, ◌++◌, length, if◌then◌else◌}
use Rattle.std.specs.Int.{w16, w32, w64, cast_unsigned, to_be_bytes}
use Rattle.std.specs.Int.RustNames.{FitsSigned}
use Rattle.std.specs.List.{flat_map, AllByRecursion}
use Rattle.ob_base.specs.declared.value.Value.{Value}
use Rattle.ob_base.specs.declared.value.Value.TheVariants.{Nil, Bool as Flag, Int, Word, Day, Moment, Ref, Refs}

-- a kept field: the bytes of its name, and its value
pub record Field : Type 0 where
  pub name : List ℕ
  pub value : Value

-- the tag of a value, and its content: a list begins with its length in four bytes
abbrev pub content_of : Value → List ℕ
content_of Nil = 0 ∷ []
content_of (Flag b) = 1 ∷ (if b then 1 else 0) ∷ []
content_of (Int n) = 2 ∷ to_be_bytes w64 (cast_unsigned w64 n)
content_of (Word text) = 3 ∷ (to_be_bytes w32 (length text) ++ text)
content_of (Day n) = 4 ∷ to_be_bytes w32 (cast_unsigned w32 n)
content_of (Moment n) = 5 ∷ to_be_bytes w64 (cast_unsigned w64 n)
content_of (Ref id) = 6 ∷ to_be_bytes w64 id.0
content_of (Refs ids) = 7 ∷ (to_be_bytes w32 (length ids) ++ flat_map (λ id. to_be_bytes w64 id.0) ids)

-- the length of the name in one byte, the name, the value
abbrev pub field_form : Field → List ℕ
field_form field = length field.name ∷ (field.name ++ content_of field.value)

-- the version, and the number of fields in two bytes
abbrev pub head_form : ℕ → List ℕ
head_form count = 1 ∷ to_be_bytes w16 count

-- the head, and the fields one after the other
abbrev pub body_form : List Field → List ℕ
body_form fields = head_form (length fields) ++ flat_map field_form fields

-- a value that its content can hold
abbrev pub HasContent : Value → Type 0
HasContent (Int n) = FitsSigned w64 n
HasContent (Word text) = length text < 2 ^ 32
HasContent (Day n) = FitsSigned w32 n
HasContent (Moment n) = FitsSigned w64 n
HasContent (Ref id) = id.0 < 2 ^ 64
HasContent (Refs ids) = (length ids < 2 ^ 32) × AllByRecursion (λ id. id.0 < 2 ^ 64) ids
HasContent _ = Unit {0}

-- a field that has a form
pub record IsField (field : Field) : Type 0 where
  pub name : length field.name < 2 ^ 8
  pub value : HasContent field.value

-- fields that have a body
abbrev pub AreFields : List Field → Type 0
AreFields fields = (length fields < 2 ^ 16) × AllByRecursion IsField fields
