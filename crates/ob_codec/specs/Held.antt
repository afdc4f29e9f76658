-- What a field may hold: a value's type, the limits of its ids, and both for what is given.
use Rattle.std.specs.Prelude.{◌≤◌, List, All, length, Option, IfSome, ⊤}
use Rattle.ob_base.specs.Ids.{IsId}
use Rattle.ob_base.specs.Times.{IsDay, IsMoment}
use Rattle.ob_base.specs.declared.value.Value.{Value}
use Rattle.ob_base.specs.declared.value.Value.TheVariants as value
use Rattle.ob_codec.specs.CommandForms.{IsObject}
use Rattle.ob_base.specs.Limits.{max_targets}
use Rattle.ob_codec.specs.declared.input.Command.{Command}
use Rattle.ob_codec.specs.declared.input.Command.TheVariants as command
use Rattle.ob_codec.specs.declared.input.Input.{Input}
use Rattle.ob_codec.specs.declared.input.Input.TheVariants as input
use Rattle.ob_definition.specs.Values.{IsValueOf}
use Rattle.ob_definition.specs.declared.field_type.Choice.{Choice}
use Rattle.ob_definition.specs.declared.field_type.FieldType.{FieldType}
use Rattle.ob_definition.specs.declared.field_type.FieldType.TheVariants as type
use Rattle.ob_schema.specs.declared.info.FieldInfo.{FieldInfo}
pub use Rattle.ob_schema.specs.Fields.{HasFieldType}
use Rattle.serde_json.specs.View.{view}

-- its ids are of 1 to 4,294,967,295, and a many2many has 65,536 of them at most
abbrev pub HasLimits : FieldType → Value → Type 0
HasLimits type.Many2one (value.Ref id) = IsId id
HasLimits type.One2many (value.Refs ids) = All IsId ids
HasLimits type.Many2many (value.Refs ids) = All IsId ids × (length ids ≤ max_targets)
HasLimits _ _ = ⊤

-- a plain value is one of the type within its limits; what commands do is judged when they are carried out
abbrev pub IsHeldAs : FieldType → List Choice → Input → Type 0
IsHeldAs t choices (input.Plain v) = IsValueOf t choices v
IsHeldAs t choices (input.Commands commands) = ⊤

-- a plain value is one that the field may hold
abbrev pub GivesHeld : Option FieldInfo → Input → Type 0
GivesHeld field given = IfSome field (λ info. IsHeldAs info.field_type info.selection given)

-- the ids that a command names are of 1 to 4,294,967,295, and its values are an object
abbrev pub HasIdsAndObjects : Command → Type 0
HasIdsAndObjects (command.Create values) = IsObject (view values)
HasIdsAndObjects (command.Update id values) = IsId id × IsObject (view values)
HasIdsAndObjects (command.Delete id) = IsId id
HasIdsAndObjects (command.Unlink id) = IsId id
HasIdsAndObjects (command.Link id) = IsId id
HasIdsAndObjects (command.Set ids) = All IsId ids
HasIdsAndObjects command.Clear = ⊤

-- so is each command that is given
abbrev pub HaveIdsAndObjects : Input → Type 0
HaveIdsAndObjects (input.Commands commands) = All HasIdsAndObjects commands
HaveIdsAndObjects (input.Plain v) = ⊤

-- a day or a moment, if it is one, has a text
abbrev pub HasText : Value → Type 0
HasText (value.Day day) = IsDay day
HasText (value.Moment moment) = IsMoment moment
HasText _ = ⊤
