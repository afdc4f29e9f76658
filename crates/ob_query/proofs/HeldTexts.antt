-- What a field holds has a text where it is a day or a moment.
use Rattle.std.proofs.Common.{◌≡◌, false, true, sym, subst, arith}
use Rattle.std.proofs.lemmas.Option.{same_Some}
use Rattle.std.specs.Prelude.{List, IsSome, Option, Some, None}
use Rattle.ob_base.specs.declared.value.Value.{Value}
use Rattle.ob_base.specs.declared.value.Value.TheVariants as value
use Rattle.ob_codec.specs.Held.{HasFieldType, HasText}
use Rattle.ob_definition.specs.Values.{HasType, initial_value}
use Rattle.ob_definition.specs.declared.field_type.Choice.{Choice}
use Rattle.ob_definition.specs.declared.field_type.FieldType.{FieldType}
use Rattle.ob_definition.specs.declared.field_type.FieldType.TheVariants as type
use Rattle.ob_schema.specs.declared.info.FieldInfo.{FieldInfo}

text_of_type : (t : FieldType) (choices : List Choice) (v : Value) → HasType t choices v → HasText v
text_of_type t choices value.Nil h = tt
text_of_type t choices (value.Bool b) h = tt
text_of_type t choices (value.Int n) h = tt
text_of_type t choices (value.Word w) h = tt
text_of_type t choices (value.Ref id) h = tt
text_of_type t choices (value.Refs ids) h = tt
text_of_type type.Boolean choices (value.Day d) h = absurd h
text_of_type type.Integer choices (value.Day d) h = absurd h
text_of_type type.Char choices (value.Day d) h = absurd h
text_of_type type.Text choices (value.Day d) h = absurd h
text_of_type type.Date choices (value.Day d) h = h
text_of_type type.Datetime choices (value.Day d) h = absurd h
text_of_type type.Selection choices (value.Day d) h = absurd h
text_of_type type.Many2one choices (value.Day d) h = absurd h
text_of_type type.One2many choices (value.Day d) h = absurd h
text_of_type type.Many2many choices (value.Day d) h = absurd h
text_of_type type.Boolean choices (value.Moment m) h = absurd h
text_of_type type.Integer choices (value.Moment m) h = absurd h
text_of_type type.Char choices (value.Moment m) h = absurd h
text_of_type type.Text choices (value.Moment m) h = absurd h
text_of_type type.Date choices (value.Moment m) h = absurd h
text_of_type type.Datetime choices (value.Moment m) h = h
text_of_type type.Selection choices (value.Moment m) h = absurd h
text_of_type type.Many2one choices (value.Moment m) h = absurd h
text_of_type type.One2many choices (value.Moment m) h = absurd h
text_of_type type.Many2many choices (value.Moment m) h = absurd h

pub text_of_field : (field : Option FieldInfo) (v : Value) → IsSome field → HasFieldType field v → HasText v
text_of_field None v there h = absurd (let no : false ≡ true = there in cc)
text_of_field (Some info) v there h = text_of_type info.field_type info.selection v h

-- ---- what a field has without a value of its own

initial_of_type : (t : FieldType) (choices : List Choice) → HasType t choices (initial_value t)
initial_of_type type.Boolean choices = tt
initial_of_type type.Integer choices = record { sfits = omega arith }
initial_of_type type.Char choices = tt
initial_of_type type.Text choices = tt
initial_of_type type.Date choices = tt
initial_of_type type.Datetime choices = tt
initial_of_type type.Selection choices = tt
initial_of_type type.Many2one choices = tt
initial_of_type type.One2many choices = λ k few. absurd (omega (arith, few))
initial_of_type type.Many2many choices = λ k few. absurd (omega (arith, few))

-- it is one of its type
pub initial_typed : (field : Option FieldInfo) (info : FieldInfo) (v : Value) → field ≡ Some info → v ≡ initial_value info.field_type → HasFieldType field v
initial_typed None info v is e = tt
initial_typed (Some other) info v is e = subst (λ (f : FieldInfo). HasType f.field_type f.selection v) (sym (same_Some other info is)) (subst (HasType info.field_type info.selection) (sym e) (initial_of_type info.field_type info.selection))
