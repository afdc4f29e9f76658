-- The forms of names. Their bytes are those of names in expressions.
use Rattle.std.specs.Prelude.{ℕ, ◌&&◌, ◌||◌, ◌==◌, nat_le, List, length, Bool}
use Rattle.std.specs.List.{list_all}
use Rattle.ob_base.specs.Limits.{max_name_bytes}
use Rattle.ob_base.specs.NameBytes.{begins_with_letter, is_name_byte}

-- a letter first, then bytes that pass the test, within the limit of a name
abbrev pub is_named_by : (ℕ → Bool) → List ℕ → Bool
is_named_by test name = begins_with_letter name && list_all test name && nat_le (length name) max_name_bytes

-- the name of a field: small letters, digits and underscores
abbrev pub is_field_name : List ℕ → Bool
is_field_name name = is_named_by is_name_byte name

-- the name of a model, which may have dots too
abbrev pub is_model_name : List ℕ → Bool
is_model_name name = is_named_by (λ b. is_name_byte b || (b == 46)) name
