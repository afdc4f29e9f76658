-- The relations that rows of a registry keep.
use Rattle.std.specs.Prelude.{◌≡◌, List, Some, true}
use Rattle.ob_base.specs.declared.id.FieldNo.{FieldNo}
use Rattle.ob_base.specs.declared.id.ModelNo.{ModelNo}
use Rattle.ob_cache.specs.Stages.{IsKeptRelation}
use Rattle.ob_effect.specs.declared.relations.KeptRelation.{KeptRelation}
use Rattle.ob_schema.specs.Fields.{is_plain_kept}
use Rattle.ob_schema.specs.Models.{FieldHas, HasModel}
use Rattle.ob_schema.specs.declared.info.FieldInfo.{FieldInfo}
use Rattle.ob_schema.specs.declared.info.ModelInfo.{ModelInfo}

-- the field of a model keeps it, and its target is one of the models
pub record IsRelation (models : List ModelInfo) (r : KeptRelation) : Type 0 where
  pub field : FieldHas models (λ info. IsKeptRelation info × (info.relation ≡ Some r.target)) r.model r.field
  pub model : HasModel models r.model
  pub target : HasModel models r.target

-- a field keeps it
pub record KeepsRelation (model : ModelNo) (field : FieldNo) (info : FieldInfo) (r : KeptRelation) : Type 0 where
  pub model_is : r.model ≡ model
  pub field_is : r.field ≡ field
  pub kept : is_plain_kept info ≡ true
  pub target : info.relation ≡ Some r.target
