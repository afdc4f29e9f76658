-- The fields that expressions are asked about: three models, and what their names stand for. A field that is added has its kind here.
use Rattle.std.specs.Prelude.{ℕ, ◌==◌, ◌&&◌, nat_le, not, List, Bool, true, false, Option, Some, None, if◌then◌else◌}
use Rattle.std.specs.List.{find}
use Rattle.std.specs.Str.{bytes_eq}
use Rattle.ob_base.specs.declared.id.FieldNo.{FieldNo}
use Rattle.ob_base.specs.declared.id.ModelNo.{ModelNo}
use Rattle.ob_base.specs.declared.value.Value.{Value}
use Rattle.ob_base.specs.declared.value.Value.TheVariants as value
use Rattle.ob_expr.specs.declared.kind.Found.{Found}
use Rattle.ob_expr.specs.declared.kind.Kind.{Kind}
use Rattle.ob_expr.specs.declared.kind.Kind.TheVariants as kind
use Rattle.probe_values.specs.declared.fields.Entry.{Entry}

-- the field of a number
abbrev pub field_no : ℕ → FieldNo
field_no n = record { 0 = n }

-- the three models
abbrev pub order : ModelNo
order = record { 0 = 1 }

abbrev pub person : ModelNo
person = record { 0 = 2 }

abbrev pub line : ModelNo
line = record { 0 = 3 }

-- the kind of the values of a field that names rows
abbrev pub kind_of_relation : ℕ → Kind
kind_of_relation n =
    if nat_le n 15 then kind.Ref order
    else if nat_le n 17 then kind.Ref person
    else if nat_le n 18 then kind.Ref line
    else if nat_le n 19 then kind.Refs order
    else if nat_le n 20 then kind.Refs person
    else kind.Refs line

-- the kind of a field's values
abbrev pub kind_of_field : FieldNo → Kind
kind_of_field f =
    if nat_le f.0 2 then kind.Bool
    else if nat_le f.0 7 then kind.Int
    else if nat_le f.0 10 then kind.Word
    else if nat_le f.0 12 then kind.Day
    else if nat_le f.0 14 then kind.Moment
    else kind_of_relation f.0

-- whether expressions may name the field
abbrev pub is_usable : FieldNo → Bool
is_usable f = not (f.0 == 7) && not (f.0 == 10)

-- whether a field has the name
abbrev pub has_name : List ℕ → Entry → Bool
has_name name e = bytes_eq e.name.now name

-- whether a model has the field of its own
abbrev pub has_field : ModelNo → Entry → Bool
has_field model e =
    if model.0 == 1 then e.of_order
    else if model.0 == 2 then e.of_person
    else if model.0 == 3 then e.of_line
    else false

-- a field, through a link or without one
abbrev pub found : Option (FieldNo × ModelNo) → FieldNo → Found
found via f = record { via = via; field = f; kind = kind_of_field f; usable = is_usable f }

-- what a field is in a model: its own, or for an order its owner's
abbrev pub found_in : ModelNo → Entry → Option Found
found_in model e =
    if has_field model e then Some (found None e.field)
    else if (model.0 == 1) && has_field person e then Some (found (Some (field_no 16, person)) e.field)
    else None

-- what a field of a name is in a model, if there is one
abbrev pub found_of : ModelNo → Option Entry → Option Found
found_of model None = None
found_of model (Some e) = found_in model e

-- what a name stands for in a model, by the fields of the table
abbrev pub finds : List Entry → ModelNo → List ℕ → Option Found
finds entries model name = found_of model (find (has_name name) entries)

-- whether a value is of such a kind; a text, a day, a moment and a reference may be unset
abbrev pub is_int : Value → Bool
is_int (value.Int n) = true
is_int _ = false

abbrev pub is_truth : Value → Bool
is_truth (value.Bool b) = true
is_truth _ = false

abbrev pub is_text : Value → Bool
is_text value.Nil = true
is_text (value.Word bytes) = true
is_text _ = false

abbrev pub is_day : Value → Bool
is_day value.Nil = true
is_day (value.Day n) = true
is_day _ = false

abbrev pub is_moment : Value → Bool
is_moment value.Nil = true
is_moment (value.Moment n) = true
is_moment _ = false

abbrev pub is_reference : Value → Bool
is_reference value.Nil = true
is_reference (value.Ref id) = true
is_reference _ = false

abbrev pub is_list : Value → Bool
is_list (value.Refs ids) = true
is_list _ = false

-- whether a value is of the kind
abbrev pub has_kind : Kind → Value → Bool
has_kind kind.Bool v = is_truth v
has_kind kind.Int v = is_int v
has_kind kind.Word v = is_text v
has_kind kind.Day v = is_day v
has_kind kind.Moment v = is_moment v
has_kind (kind.Ref model) v = is_reference v
has_kind (kind.Refs model) v = is_list v

-- a value, where it is of the kind
abbrev pub of_kind : Kind → Option Value → Option Value
of_kind k None = None
of_kind k (Some v) = if has_kind k v then Some v else None
