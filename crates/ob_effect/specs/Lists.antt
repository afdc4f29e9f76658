-- Lists of rows as the steps have them.
use Rattle.std.specs.Prelude.{◌≡◌, List, true}
use Rattle.ob_base.specs.declared.id.FieldNo.{FieldNo}
use Rattle.ob_base.specs.declared.id.ModelNo.{ModelNo}
use Rattle.ob_effect.specs.Rows.{IsLinkField}
use Rattle.ob_effect.specs.declared.lists.Keeping.{Keeping}
use Rattle.ob_effect.specs.declared.lists.Keeping.TheVariants as keeping
use Rattle.ob_effect.specs.declared.lists.RowList.{RowList}
use Rattle.ob_definition.specs.Types.{is_list}
use Rattle.ob_definition.specs.declared.field_type.FieldType.TheVariants as type
use Rattle.ob_schema.specs.Fields.{is_plain_from, is_plain_kept}
use Rattle.ob_schema.specs.Models.{FieldHas, HasModel}
use Rattle.ob_schema.specs.declared.info.ModelInfo.{ModelInfo}

module _ (models : List ModelInfo) where
  -- a list of the model's rows, which calls give
  abbrev pub IsListField : ModelNo → FieldNo → Type 0
  IsListField model field = FieldHas models (λ info. (is_plain_from info.origin ≡ true) × (is_list info.field_type ≡ true)) model field

  -- a list that the model's rows keep
  abbrev pub IsKeptList : ModelNo → FieldNo → Type 0
  IsKeptList model field = FieldHas models (λ info. (is_plain_kept info ≡ true) × (info.field_type ≡ type.Many2many)) model field

  -- where a list of rows of a target stands: in its own cell, in a many2one of the target's rows, or in a list that they keep
  abbrev pub StandsIn : RowList → Keeping → Type 0
  StandsIn list keeping.Own = IsKeptList list.cell.model list.cell.field
  StandsIn list (keeping.Inverse field) = IsLinkField models list.target field
  StandsIn list (keeping.Mirror field) = IsKeptList list.target field

  -- a list of rows of a target
  pub record IsListOf (list : RowList) : Type 0 where
    pub field : IsListField list.cell.model list.cell.field
    pub target : HasModel models list.target
    pub stands : StandsIn list list.keeping
