-- The fields of the model that is called.
use Rattle.std.proofs.Common.{List, [], Option, Some, None}
use Rattle.std.specs.Option.{option_map_or}
use Rattle.std.specs.Prelude.{IfSome}
use Rattle.ob_base.specs.declared.id.ModelNo.{ModelNo}
use Rattle.ob_call.specs.Forms.{fields_at}
use Rattle.ob_schema.specs.Models.{model_at}
use Rattle.ob_schema.specs.declared.info.FieldInfo.{FieldInfo}
use Rattle.ob_schema.specs.declared.info.ModelInfo.{ModelInfo}

-- what holds of the fields that a model has holds of its own
pub at_info : (models : List ModelInfo) (model : ModelNo) (P : List FieldInfo → Type 0) → P (fields_at models model) → IfSome (model_at models model) (λ info. P info.fields)
at_info models model P h = by (model_at models model) h where
  by : (o : Option ModelInfo) → P (option_map_or (λ info. info.fields) o []) → IfSome o (λ info. P info.fields)
  by None h = tt
  by (Some info) h = h
