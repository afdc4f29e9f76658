-- The fields that an argument names: those of its texts, or all where it names none.
use Rattle.std.specs.Prelude.{ℕ, ◌+◌, ◌==◌, ◌||◌, List, [], ◌∷◌, filter, Bool, false, Option, Some, None, option_map, if◌then◌else◌}
use Rattle.std.specs.List.{filter_map, list_any}
use Rattle.std.specs.Option.{option_map_or}
use Rattle.ob_call.specs.Arguments.{Given}
use Rattle.ob_call.specs.Forms.{number_from}
use Rattle.ob_codec.specs.Commands.{listed}
use Rattle.ob_base.specs.declared.id.FieldNo.{FieldNo}
use Rattle.ob_schema.specs.Built.{numbered}
use Rattle.ob_schema.specs.Fields.{Column, columns}
use Rattle.ob_schema.specs.Models.{fields_of}
use Rattle.ob_schema.specs.declared.info.ModelInfo.{ModelInfo}
use Rattle.serde_json.specs.Data.{Data, array}

-- whether one of these texts names the field of this number
abbrev pub is_named : ModelInfo → List Data → ℕ → Bool
is_named info names n = list_any (λ d. option_map_or (λ named. named.0 == n) (number_from info.fields d) false) names

-- the fields that the texts of a list name, or all where it is empty
abbrev pub columns_named : ModelInfo → List Data → List Column
columns_named info [] = columns info
columns_named info (d ∷ ds) = filter (λ column. is_named info (d ∷ ds) column.0) (columns info)

-- the fields of an argument of that form
abbrev pub columns_in : ModelInfo → Data → List Column
columns_in info (array items) = columns_named info (listed items)
columns_in info _ = []

-- the fields that are asked for: all where none is named
abbrev pub asked_columns : ModelInfo → Option Given → List Column
asked_columns info None = columns info
asked_columns info (Some g) = columns_in info g.json

-- the fields of these numbers
abbrev pub columns_at : ModelInfo → List FieldNo → List Column
columns_at info numbers = filter_map (λ number. option_map (λ field. (number.0, field)) (numbered (fields_of info) number.0)) numbers

-- the numbers of the flags that are set, or of all, the first one at this number
abbrev pub flagged : Bool → ℕ → List Bool → List ℕ
flagged all n [] = []
flagged all n (flag ∷ flags) = if flag || all then n ∷ flagged all (n + 1) flags else flagged all (n + 1) flags
