-- How a refusal is told, by a name and a message; and how a cell is named.
use Rattle.std.specs.Prelude.{ℕ, List, [], ◌++◌, codes, decimal, Option, Some, None}
use Rattle.std.specs.Option.{option_map_or}
use Rattle.ob_base.specs.declared.id.Cell.{Cell}
use Rattle.ob_base.specs.declared.id.FieldNo.{FieldNo}
use Rattle.ob_base.specs.declared.id.ModelNo.{ModelNo}
use Rattle.ob_base.specs.declared.id.RecId.{RecId}
use Rattle.ob_base.specs.declared.refusal.Refusal.{Refusal}
use Rattle.ob_base.specs.declared.refusal.Refusal.TheVariants as refusal
use Rattle.ob_base.specs.Names.{op_name, kind_name}
use Rattle.ob_base.specs.PathText.{path_text}
use Rattle.ob_schema.specs.Models.{field_at, model_at}
use Rattle.ob_schema.specs.declared.info.ModelInfo.{ModelInfo}

-- the name of a model, empty where there is none of the number
abbrev pub model_name : List ModelInfo → ModelNo → List ℕ
model_name models model = option_map_or (λ info. info.name) (model_at models model) []

-- the name of a field, empty where there is none of the number
abbrev pub field_name : List ModelInfo → ModelNo → FieldNo → List ℕ
field_name models model field = option_map_or (λ info. info.name) (field_at models model field) []

-- a row, as messages name it
abbrev pub row_text : List ModelInfo → ModelNo → RecId → List ℕ
row_text models model id = model_name models model ++ codes " " ++ decimal id.0

-- a cell, as it is named
abbrev pub cell_text : List ModelInfo → Cell → List ℕ
cell_text models cell = row_text models cell.model cell.id ++ codes " " ++ field_name models cell.model cell.field

-- the name of a refusal
abbrev pub refusal_name : Refusal → List ℕ
refusal_name (refusal.Request place) = codes "Request"
refusal_name (refusal.Right m op) = codes "Right"
refusal_name (refusal.FieldRight m field) = codes "FieldRight"
refusal_name (refusal.Missing m id) = codes "Missing"
refusal_name (refusal.Rule m op id name) = codes "Rule"
refusal_name (refusal.Constraint b) = codes "Constraint." ++ kind_name b.kind
refusal_name refusal.Keeper = codes "Keeper"
refusal_name refusal.NoMemory = codes "NoMemory"

-- who denies a row: for a read, where no rule is named, nobody is
abbrev pub denial : Option (List ℕ) → List ℕ → List ℕ
denial None op = []
denial (Some rule) op = codes " by " ++ rule ++ codes " for " ++ op

-- the message of a refusal, over the models of the registry
abbrev pub refusal_message : List ModelInfo → Refusal → List ℕ
refusal_message models (refusal.Request place) = codes "malformed at " ++ path_text place
refusal_message models (refusal.Right m op) = codes "no right " ++ op_name op ++ codes " on " ++ model_name models m
refusal_message models (refusal.FieldRight m field) = codes "no right on " ++ model_name models m ++ codes "." ++ field_name models m field
refusal_message models (refusal.Missing m id) = row_text models m id ++ codes " does not exist"
refusal_message models (refusal.Rule m op id name) = row_text models m id ++ codes " is not admitted" ++ denial name (op_name op)
refusal_message models (refusal.Constraint b) = cell_text models b.cell
refusal_message models refusal.Keeper = codes "keeper fault"
refusal_message models refusal.NoMemory = codes "no memory"
