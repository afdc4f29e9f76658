-- The value that the JSON of a call gives a field of a row.
use Rattle.std.specs.Prelude.{List, [], ◌∷◌, ◌++◌, if◌then◌else◌, Bool, Option, Some, None, Result, Ok, Err}
use Rattle.ob_base.specs.Chain.{◌>>=◌}
use Rattle.ob_base.specs.declared.id.FieldNo.{FieldNo}
use Rattle.ob_base.specs.declared.place.PathStep.{PathStep}
use Rattle.ob_base.specs.declared.value.Value.{Value}
use Rattle.ob_codec.specs.JsonForm.{value_from}
use Rattle.ob_codec.specs.declared.fault.CodecFault.{CodecFault}
use Rattle.ob_codec.specs.declared.fault.CodecFault.TheVariants as codec
use Rattle.ob_schema.specs.declared.info.FieldInfo.{FieldInfo}
use Rattle.serde_json.specs.Data.{Data, object, Members, no_members}

-- the place below a value where it is not of its form
abbrev pub place_of : CodecFault → List PathStep
place_of (codec.Shape place) = place
place_of (codec.Range place) = place
place_of (codec.Unknown place) = place
place_of codec.NoMemory = []

-- a value that was read at a place, or the place that is wrong
abbrev pub placed : List PathStep → Result Value CodecFault → Result Value (List PathStep)
placed place (Ok v) = Ok v
placed place (Err fault) = Err (place ++ place_of fault)

-- the value that a field is given at a place, its key; else in a row that is made its default, where it has one
abbrev pub given_value : Bool → List PathStep → FieldInfo → Option Data → Result (Option Value) (List PathStep)
given_value made place field None = Ok (if made then field.default else None)
given_value made place field (Some d) = placed place (value_from field.field_type field.selection d) >>= λ v. Ok (Some v)

-- a value with the number of its field, where there is one
abbrev pub valued : FieldNo → Option Value → List (FieldNo × Value)
valued field None = []
valued field (Some v) = (field, v) ∷ []

-- the members of an object; nothing else has any
abbrev pub members_of : Data → Members
members_of (object members) = members
members_of _ = no_members
