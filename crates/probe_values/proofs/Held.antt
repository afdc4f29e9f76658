-- What JSON gives a field that is no list is a value of the field's type.
use Rattle.std.specs.Prelude.{List, Option, Some, None}
use Rattle.ob_base.specs.declared.value.Value.{Value}
use Rattle.ob_definition.specs.Values.{HasType}
use Rattle.ob_codec.specs.Held.{GivesHeld, HasFieldType}
use Rattle.ob_codec.specs.declared.input.Input.TheVariants as input
use Rattle.ob_definition.specs.Values.{IsValueOf}
use Rattle.ob_definition.specs.declared.field_type.Choice.{Choice}
use Rattle.ob_definition.specs.declared.field_type.FieldType.{FieldType}
use Rattle.ob_schema.specs.declared.info.FieldInfo.{FieldInfo}

pub held : ((t : FieldType) (choices : List Choice) (v : Value) → IsValueOf t choices v → HasType t choices v)
    → (field : Option FieldInfo) (v : Value) → GivesHeld field (input.Plain v) → HasFieldType field v
held law None v given = given
held law (Some info) v given = law info.field_type info.selection v given
