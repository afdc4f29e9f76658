-- The JSON of a value has no float, so it has a text.
use Rattle.std.proofs.Common.{◌≡◌, false, List, [], ◌∷◌, map, refl, ap, ◌∙◌}
use Rattle.std.specs.Prelude.{pos, negsuc}
use Rattle.serde_json.specs.Data.{Data}
use Rattle.serde_json.specs.View.{items_of}
use Rattle.serde_json.specs.Written.{has_float, items_have_float}
use Rattle.ob_base.specs.declared.id.RecId.{RecId}
use Rattle.ob_base.specs.declared.value.Value.{Value}
use Rattle.ob_base.specs.declared.value.Value.TheVariants as value
use Rattle.ob_codec.specs.CommandForms.{id_json}
use Rattle.ob_codec.specs.JsonForm.{IsJsonOf}

-- ids are no floats
ids_plain : (ids : List RecId) → items_have_float (items_of (map id_json ids)) ≡ false
ids_plain [] = refl
ids_plain (id ∷ ids) = ids_plain ids

pub value_plain : (v : Value) (d : Data) → IsJsonOf v d → has_float d ≡ false
value_plain value.Nil d told = ap has_float told
value_plain (value.Bool b) d told = ap has_float told
value_plain (value.Int (pos n)) d told = ap has_float told
value_plain (value.Int (negsuc n)) d told = ap has_float told
value_plain (value.Word text) d told = ap has_float told
value_plain (value.Day n) d told = ap has_float told.1
value_plain (value.Moment n) d told = ap has_float told.1
value_plain (value.Ref id) d told = ap has_float told
value_plain (value.Refs ids) d told = ap has_float told ∙ ids_plain ids
