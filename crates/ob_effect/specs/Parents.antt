-- Parents of rows as the steps have them.
use Rattle.std.specs.Prelude.{List, Contains, IsSomeAnd}
use Rattle.ob_base.specs.declared.id.FieldNo.{FieldNo}
use Rattle.ob_base.specs.declared.id.ModelNo.{ModelNo}
use Rattle.ob_schema.specs.Models.{FieldHas, HasKeysOf, model_at}
use Rattle.ob_schema.specs.declared.info.ModelInfo.{ModelInfo}
use Rattle.ob_schema.specs.declared.info.ParentInfo.{ParentInfo}

module _ (models : List ModelInfo) (model : ModelNo) where
  -- one of the model's parents
  abbrev pub IsParentOf : ParentInfo → Type 0
  IsParentOf parent = IsSomeAnd (model_at models model) (λ info. Contains info.inherits parent)

  -- a field of the model has the keys of a parent's field
  abbrev pub StandsBehind : ParentInfo → FieldNo → FieldNo → Type 0
  StandsBehind parent field behind = FieldHas models (λ own. FieldHas models (λ other. HasKeysOf other own) parent.model behind) model field
