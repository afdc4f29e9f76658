-- What rows are made and changed with, as the steps have it.
use Rattle.std.specs.Prelude.{◌≡◌, List, true}
use Rattle.ob_base.specs.declared.id.FieldNo.{FieldNo}
use Rattle.ob_base.specs.declared.id.ModelNo.{ModelNo}
use Rattle.ob_base.specs.declared.value.Value.{Value}
use Rattle.ob_effect.specs.declared.rows.LinkTo.{LinkTo}
use Rattle.ob_definition.specs.declared.field_type.FieldType.TheVariants as type
use Rattle.ob_schema.specs.Fields.{IsGivable, is_plain_kept}
use Rattle.ob_schema.specs.Models.{FieldHas}
use Rattle.ob_schema.specs.declared.info.ModelInfo.{ModelInfo}

module _ (models : List ModelInfo) (model : ModelNo) where
  -- a many2one whose values rows of the model keep
  abbrev pub IsLinkField : FieldNo → Type 0
  IsLinkField field = FieldHas models (λ info. (is_plain_kept info ≡ true) × (info.field_type ≡ type.Many2one)) model field

  -- a link of a row of the model
  abbrev pub IsLink : LinkTo → Type 0
  IsLink link = IsLinkField link.field

  -- a field whose values rows of the model keep, and a value of its type
  abbrev pub IsSettable : FieldNo → Value → Type 0
  IsSettable field value = FieldHas models (λ info. (is_plain_kept info ≡ true) × IsGivable info value) model field
