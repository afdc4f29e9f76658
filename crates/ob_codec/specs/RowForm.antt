-- The kept form of a row of a model: its kept fields in byte order of their names.
use Rattle.std.specs.Prelude.{ℕ, List, [], ◌∷◌, ⊤}
use Rattle.ob_base.specs.declared.value.Value.{Value}
use Rattle.ob_schema.specs.declared.info.FieldInfo.{FieldInfo}
use Rattle.ob_schema.specs.Fields.{Holds}
use Rattle.ob_codec.specs.KeptForm.{Field, body_form}

-- one value for each field, in their order, that the field may hold
abbrev pub HoldAll : List FieldInfo → List Value → Type 0
HoldAll [] [] = ⊤
HoldAll (field ∷ fields) (v ∷ values) = Holds field v × HoldAll fields values
HoldAll _ _ = ⊥

-- each field's name with its value
abbrev pub named : List FieldInfo → List Value → List Field
named (field ∷ fields) (v ∷ values) = record { name = field.name; value = v } ∷ named fields values
named _ _ = []

-- the body of a row that has these values in these fields
abbrev pub row_form : List FieldInfo → List Value → List ℕ
row_form fields values = body_form (named fields values)
