-- Rows that modules bring: each fits its model, and names only rows before it.
use Rattle.std.specs.Prelude.{◌≡◌, ◌≢◌, ◌++◌, ◌∷◌, ℕ, List, All, IsSomeAnd, Some, None, slice_get, false}
use Rattle.std.specs.List.{AllPairs}
use Rattle.ob_definition.specs.Types.{is_relation}
use Rattle.ob_definition.specs.declared.field_type.FieldType.TheVariants as type
use Rattle.ob_schema.specs.Built.{numbered}
use Rattle.ob_schema.specs.Fields.{Holds}
use Rattle.ob_schema.specs.Models.{model_at}
use Rattle.ob_schema.specs.declared.info.FieldInfo.{FieldInfo}
use Rattle.ob_schema.specs.declared.info.ModelInfo.{ModelInfo}
use Rattle.ob_schema.specs.declared.preset.PresetRow.{PresetRow}
use Rattle.ob_schema.specs.declared.preset.PresetValue.{PresetValue}
use Rattle.ob_schema.specs.declared.preset.PresetValue.TheVariants as preset

-- one of these rows, of the model that a relation names, has the number
abbrev pub IsTargetOf : List PresetRow → FieldInfo → ℕ → Type 0
IsTargetOf before field n = IsSomeAnd (slice_get before n) (λ row. field.relation ≡ Some row.model)

-- a value that a row behind these may give to a field: one of the field's own, within its limits; an earlier row for a many2one; earlier rows for a many2many that is no mirror
abbrev pub IsPresetOf : List PresetRow → FieldInfo → PresetValue → Type 0
IsPresetOf before field (preset.Plain v) = Holds field v × (is_relation field.field_type ≡ false)
IsPresetOf before field (preset.Row n) = (field.field_type ≡ type.Many2one) × IsTargetOf before field n
IsPresetOf before field (preset.Rows numbers) = (field.field_type ≡ type.Many2many) × (field.mirror ≡ None) × All (IsTargetOf before field) numbers

-- the values of a row behind these fit fields of its model, no two of them the same
pub record FitsModel (before : List PresetRow) (info : ModelInfo) (row : PresetRow) : Type 0 where
  pub apart : AllPairs (λ a b. a.0 ≢ b.0) row.values
  pub fit : All (λ given. IsSomeAnd (numbered info.fields given.0.0) (λ field. IsPresetOf before field given.1)) row.values

-- each row is of a model and fits it, behind the rows before it
abbrev pub IsPreset : List ModelInfo → List PresetRow → Type 0
IsPreset models rows = (before : List PresetRow) (row : PresetRow) (after : List PresetRow) → rows ≡ before ++ row ∷ after
    → IsSomeAnd (model_at models row.model) (λ info. FitsModel before info row)
