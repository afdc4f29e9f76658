-- Which edits may be asked for: those of models, plain kept fields and values of the registry.
use Rattle.std.specs.Prelude.{◌≡◌, ◌≢◌, ◌<◌, ◌-◌, ◌^◌, List, All, IsSomeAnd, true}
use Rattle.std.specs.List.{AllPairs}
use Rattle.ob_base.specs.declared.id.Cell.{Cell}
use Rattle.ob_base.specs.declared.id.FieldNo.{FieldNo}
use Rattle.ob_base.specs.declared.id.ModelNo.{ModelNo}
use Rattle.ob_base.specs.declared.id.RecId.{RecId}
use Rattle.ob_base.specs.declared.value.Value.{Value}
use Rattle.ob_schema.specs.declared.info.FieldInfo.{FieldInfo}
use Rattle.ob_schema.specs.declared.info.ModelInfo.{ModelInfo}
use Rattle.ob_schema.specs.Built.{numbered}
use Rattle.ob_schema.specs.Fields.{is_plain_kept}
use Rattle.ob_schema.specs.Models.{FieldHas, HasModel, fields_of, model_at}
use Rattle.ob_schema.specs.Fields.{IsGivable}
use Rattle.ob_tables.specs.declared.edit.Edit.{Edit}
use Rattle.ob_tables.specs.declared.edit.Edit.TheVariants as edit

-- the row of a plain kept field keeps it, and the value is one of the field's
abbrev pub IsFitIn : FieldInfo → Value → Type 0
IsFitIn field v = (is_plain_kept field ≡ true) × IsGivable field v

-- values for plain kept fields of a model, for each at most one
abbrev pub AreFitValues : ModelInfo → List (FieldNo × Value) → Type 0
AreFitValues info values =
    All (λ given. IsSomeAnd (numbered (fields_of info) given.0.0) (λ field. IsFitIn field given.1)) values × AllPairs (λ a b. a.0 ≢ b.0) values

-- values for fields of a model that is there
abbrev pub AreFitIn : List ModelInfo → ModelNo → List (FieldNo × Value) → Type 0
AreFitIn models model values = IsSomeAnd (model_at models model) (λ info. AreFitValues info values)

-- a value for the field of a cell
abbrev pub IsFitValueAt : List ModelInfo → Cell → Value → Type 0
IsFitValueAt models cell v = FieldHas models (λ field. IsFitIn field v) cell.model cell.field

-- an id above which there is a next one
abbrev pub IsFitId : RecId → Type 0
IsFitId id = id.0 < 2 ^ 64 - 1

-- an edit that may be asked for
abbrev pub IsFitEdit : List ModelInfo → Edit → Type 0
IsFitEdit models (edit.Make model id values) = IsFitId id × AreFitIn models model values
IsFitEdit models (edit.Set cell v) = IsFitId cell.id × IsFitValueAt models cell v
IsFitEdit models (edit.Gone model id) = IsFitId id × HasModel models model
