-- The checks among the conditions of a model.
use Rattle.std.specs.Prelude.{◌≢◌, ◌<◌, length, codes}
use Rattle.ob_base.specs.declared.id.FieldNo.{FieldNo}
use Rattle.ob_schema.specs.declared.info.FieldInfo.{FieldInfo}
use Rattle.ob_schema.specs.declared.info.ModelInfo.{ModelInfo}

-- a condition, which stands behind the named fields, but not the one by which rows are locked
abbrev pub IsCheck : ModelInfo → FieldNo → FieldInfo → Type 0
IsCheck info number field = (length info.fields < number.0) × (field.name ≢ codes "locked")
