-- Which keys of a field fit one another.
use Rattle.std.specs.Prelude.{ℕ, ◌||◌, ◌&&◌, nat_le, List, length, if◌then◌else◌, Bool, true, false, not, is_some, is_none, Option}
use Rattle.std.specs.List.{list_any}
use Rattle.std.specs.Option.{option_map_or}
use Rattle.std.specs.Str.{bytes_eq}
use Rattle.ob_base.specs.Limits.{max_char_bytes, max_text_bytes}
use Rattle.ob_base.specs.Times.{is_day, is_moment}
use Rattle.ob_base.specs.declared.value.Value.{Value}
use Rattle.ob_base.specs.declared.value.Value.TheVariants as value
use Rattle.ob_definition.specs.declared.definition.FieldDef.{FieldDef}
use Rattle.ob_definition.specs.declared.field_type.Choice.{Choice}
use Rattle.ob_definition.specs.declared.field_type.FieldType.{FieldType}
use Rattle.ob_definition.specs.declared.field_type.FieldType.TheVariants as type
use Rattle.ob_definition.specs.Definitions.{is_computed, is_set}
use Rattle.ob_definition.specs.Types.{is_one2many, is_list, is_relation}
use Rattle.ob_definition.specs.Values.{keys_of}

-- its values name a row of another model, or none
abbrev pub is_many2one : FieldType → Bool
is_many2one t = is_relation t && not (is_list t)

-- its values are rows of another model that any row may share
abbrev pub is_many2many : FieldType → Bool
is_many2many t = is_list t && not (is_one2many t)

-- its values are declared keys
abbrev pub is_selection : FieldType → Bool
is_selection type.Selection = true
is_selection _ = false

-- both hold, or neither
abbrev pub agree : Bool → Bool → Bool
agree a b = if a then b else not b

-- the keys of a selection, none where they aren't given
abbrev pub has_choice_key : Option (List Choice) → List ℕ → Bool
has_choice_key choices text = option_map_or (λ own. list_any (bytes_eq text) (keys_of own)) choices false

-- a constant of the type within its limits; relations have none
abbrev pub is_constant : FieldType → Option (List Choice) → Value → Bool
is_constant type.Boolean choices (value.Bool b) = true
is_constant type.Integer choices (value.Int n) = true
is_constant type.Char choices (value.Word text) = nat_le (length text) max_char_bytes
is_constant type.Text choices (value.Word text) = nat_le (length text) max_text_bytes
is_constant type.Date choices (value.Day n) = is_day n
is_constant type.Datetime choices (value.Moment n) = is_moment n
is_constant type.Selection choices (value.Word text) = nat_le (length text) max_char_bytes && has_choice_key choices text
is_constant _ _ _ = false

-- a default, where there is one, is such a constant
abbrev pub default_fits : FieldDef → Bool
default_fits field = option_map_or (is_constant field.field_type field.selection) field.default true

-- relations alone name a model, a one2many its inverse, a many2many its mirror, a selection its keys
abbrev pub relation_fits : FieldDef → Bool
relation_fits field =
    agree (is_some field.relation) (is_relation field.field_type)
    && agree (is_some field.inverse) (is_one2many field.field_type)
    && (is_none field.mirror || is_many2many field.field_type)
    && agree (is_some field.selection) (is_selection field.field_type)

-- what becomes of a row is said of a plain many2one alone
abbrev pub ondelete_fits : FieldDef → Bool
ondelete_fits field = is_none field.ondelete || (is_many2one field.field_type && not (is_computed field))

-- a computed field has one expression or one path, and is not required, no relation, no selection and without default
abbrev pub computed_fits : FieldDef → Bool
computed_fits field =
    (is_none field.related || (is_none field.compute && is_none field.depends))
    && not (is_set field.required)
    && not (is_relation field.field_type)
    && not (is_selection field.field_type)
    && is_none field.default

-- a plain field has none of a computed field's keys
abbrev pub plain_fits : FieldDef → Bool
plain_fits field = is_none field.depends && is_none field.store && is_none field.recursive && default_fits field

-- the keys fit the type and one another
abbrev pub fits : FieldDef → Bool
fits field = relation_fits field && ondelete_fits field && (if is_computed field then computed_fits field else plain_fits field)
