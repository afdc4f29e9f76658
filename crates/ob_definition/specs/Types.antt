-- The types of fields.
use Rattle.std.specs.Prelude.{Bool, true, false}
use Rattle.ob_definition.specs.declared.field_type.FieldType.{FieldType}
use Rattle.ob_definition.specs.declared.field_type.FieldType.TheVariants as type

-- its values name rows
abbrev pub is_relation : FieldType → Bool
is_relation type.Many2one = true
is_relation type.One2many = true
is_relation type.Many2many = true
is_relation _ = false

-- its values are lists of rows
abbrev pub is_list : FieldType → Bool
is_list type.One2many = true
is_list type.Many2many = true
is_list _ = false

-- its values are the rows whose inverse names the row
abbrev pub is_one2many : FieldType → Bool
is_one2many type.One2many = true
is_one2many _ = false
