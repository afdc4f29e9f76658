-- The values that a field may hold, by its type and within its limits.
use Rattle.std.specs.Prelude.{◌≤◌, ℕ, List, [], length, map, All, Contains, FitsSigned, ⊤, pos, false}
use Rattle.std.specs.Int.{w64}
use Rattle.std.specs.Str.{IsUtf8}
use Rattle.ob_base.specs.Ids.{IsId}
use Rattle.ob_base.specs.Limits.{max_char_bytes, max_targets, max_text_bytes}
use Rattle.ob_base.specs.Rising.{IsRising}
use Rattle.ob_base.specs.Times.{IsDay, IsMoment}
use Rattle.ob_base.specs.declared.id.RecId.{RecId}
use Rattle.ob_base.specs.declared.value.Value.{Value}
use Rattle.ob_base.specs.declared.value.Value.TheVariants as value
use Rattle.ob_definition.specs.declared.field_type.Choice.{Choice}
use Rattle.ob_definition.specs.declared.field_type.FieldType.{FieldType}
use Rattle.ob_definition.specs.declared.field_type.FieldType.TheVariants as type

-- what each value of the program has by its type: an integer fits 64 bits, and a text is UTF-8
abbrev pub IsNative : Value → Type 0
IsNative (value.Int n) = FitsSigned w64 n
IsNative (value.Word text) = IsUtf8 text
IsNative _ = ⊤

-- a text of so many bytes at most
pub record IsText (limit : ℕ) (text : List ℕ) : Type 0 where
  pub utf8 : IsUtf8 text
  pub short : length text ≤ limit

-- the keys of a selection
abbrev pub keys_of : List Choice → List (List ℕ)
keys_of choices = map (λ choice. choice.key) choices

-- one of the keys, within the limit of a text of its kind
pub record IsKey (choices : List Choice) (text : List ℕ) : Type 0 where
  pub short : length text ≤ max_char_bytes
  pub declared : Contains (keys_of choices) text

-- rows that a list may name: ids that rise
pub record IsTargets (ids : List RecId) : Type 0 where
  pub rising : IsRising ids
  pub within : All IsId ids

-- a value of the type, or unset where the type has it; a selection has one of the keys, a many2many no more targets than it may have
abbrev pub IsValueOf : FieldType → List Choice → Value → Type 0
IsValueOf type.Boolean choices (value.Bool b) = ⊤
IsValueOf type.Integer choices (value.Int n) = FitsSigned w64 n
IsValueOf type.Char choices value.Nil = ⊤
IsValueOf type.Char choices (value.Word text) = IsText max_char_bytes text
IsValueOf type.Text choices value.Nil = ⊤
IsValueOf type.Text choices (value.Word text) = IsText max_text_bytes text
IsValueOf type.Date choices value.Nil = ⊤
IsValueOf type.Date choices (value.Day n) = IsDay n
IsValueOf type.Datetime choices value.Nil = ⊤
IsValueOf type.Datetime choices (value.Moment n) = IsMoment n
IsValueOf type.Selection choices value.Nil = ⊤
IsValueOf type.Selection choices (value.Word text) = IsKey choices text
IsValueOf type.Many2one choices value.Nil = ⊤
IsValueOf type.Many2one choices (value.Ref id) = IsId id
IsValueOf type.One2many choices (value.Refs ids) = IsTargets ids
IsValueOf type.Many2many choices (value.Refs ids) = IsTargets ids × (length ids ≤ max_targets)
IsValueOf _ _ _ = ⊥

-- a value of the type, whatever the ids in it are, and however many
abbrev pub HasType : FieldType → List Choice → Value → Type 0
HasType type.Many2one choices (value.Ref id) = ⊤
HasType type.One2many choices (value.Refs ids) = IsRising ids
HasType type.Many2many choices (value.Refs ids) = IsRising ids
HasType t choices v = IsValueOf t choices v

-- what a field of a type has without a value of its own: 0, false, unset or the empty list
abbrev pub initial_value : FieldType → Value
initial_value type.Boolean = value.Bool false
initial_value type.Integer = value.Int (pos 0)
initial_value type.One2many = value.Refs []
initial_value type.Many2many = value.Refs []
initial_value _ = value.Nil
