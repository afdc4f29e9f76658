-- Fields of a model: which are kept, and what they may hold.
use Rattle.std.specs.List.{enumerate_from}
use Rattle.std.specs.Prelude.{ℕ, ◌&&◌, List, Bool, true, false, not, is_none, filter, Option, IfSome}
use Rattle.ob_base.specs.declared.value.Value.{Value}
use Rattle.ob_schema.specs.declared.info.FieldInfo.{FieldInfo}
use Rattle.ob_schema.specs.declared.info.ModelInfo.{ModelInfo}
use Rattle.ob_schema.specs.declared.info.Origin.{Origin}
use Rattle.ob_schema.specs.declared.info.Origin.TheVariants as origin
use Rattle.ob_definition.specs.Types.{is_one2many}
use Rattle.ob_definition.specs.Values.{HasType, IsValueOf}

-- its values stand in the row itself: no one2many, and no mirror of another field
abbrev pub is_own : FieldInfo → Bool
is_own field = not (is_one2many field.field_type) && is_none field.mirror

-- a row keeps a field of this origin: a plain one in the row itself, a computed one that is stored
abbrev pub is_kept_from : Origin → FieldInfo → Bool
is_kept_from origin.Plain field = is_own field
is_kept_from (origin.Computed formula) field = field.store
is_kept_from _ field = false

-- calls give the values of a field of this origin
abbrev pub is_plain_from : Origin → Bool
is_plain_from origin.Plain = true
is_plain_from _ = false

-- it has a value in each row: all but a computed field that isn't kept, and one delegated to such a field
abbrev pub has_value_of : FieldInfo → Bool
has_value_of field = field.store

-- a row's kept form has the field
abbrev pub is_kept : FieldInfo → Bool
is_kept field = is_kept_from field.origin field

-- calls give its value, and the row keeps it
abbrev pub is_plain_kept : FieldInfo → Bool
is_plain_kept field = is_plain_from field.origin && is_own field

-- the fields that a row's kept form has, in byte order of their names
abbrev pub kept_fields : ModelInfo → List FieldInfo
kept_fields model = filter is_kept model.fields

-- a value that the field may hold
abbrev pub Holds : FieldInfo → Value → Type 0
Holds field v = IsValueOf field.field_type field.selection v

-- a value of the field's type, whatever ids it names and however many
abbrev pub IsGivable : FieldInfo → Value → Type 0
IsGivable field v = HasType field.field_type field.selection v

-- a value of the type of a field that is there
abbrev pub HasFieldType : Option FieldInfo → Value → Type 0
HasFieldType field v = IfSome field (λ info. IsGivable info v)

-- a field with its number
abbrev pub Column : Type 0
Column = ℕ × FieldInfo

-- the fields of a model with their numbers, from 1
abbrev pub columns : ModelInfo → List Column
columns model = enumerate_from 1 model.fields

-- those whose values calls give and rows keep
abbrev pub plain_columns : ModelInfo → List Column
plain_columns model = filter (λ column. is_plain_kept column.1) (columns model)
