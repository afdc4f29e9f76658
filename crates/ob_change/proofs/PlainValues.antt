-- The values of plain cells, by where their fields have them from.
use Rattle.std.proofs.Common.{◌≡◌, true, false, List, Option, Some, None, option_and_then, is_some, refl, ap, ◌∙◌}
use Rattle.std.specs.Option.{option_or}
use Rattle.std.proofs.lemmas.Option.{same_Some}
use Rattle.ob_base.specs.declared.id.Cell.{Cell}
use Rattle.ob_base.specs.declared.id.FieldNo.{FieldNo}
use Rattle.ob_base.specs.declared.id.RecId.{RecId}
use Rattle.ob_schema.specs.Models.{field_at, is_given_from}
use Rattle.ob_schema.specs.Plain.{naming_back, plain_at, plain_by, plain_from}
use Rattle.ob_schema.specs.Tables.{PlainRow, Tables, kept_in, row_at}
use Rattle.ob_schema.specs.declared.info.FieldInfo.{FieldInfo}
use Rattle.ob_schema.specs.declared.info.ModelInfo.{ModelInfo}
use Rattle.ob_schema.specs.declared.info.Origin.{Origin}
use Rattle.ob_schema.specs.declared.info.Origin.TheVariants as origin
use Rattle.ob_change.specs.EditedSteps.{IsGiven}

module _ (models : List ModelInfo) (tables : Tables) (cell : Cell) where
  -- the value of a cell by its field
  value-at : (info : FieldInfo) → field_at models cell.model cell.field ≡ Some info
      → plain_at tables models cell ≡ option_and_then (plain_from tables info.origin info cell.field cell.id) (row_at tables cell.model cell.id)
  value-at info at = ap (option_and_then (λ i. option_and_then (plain_from tables i.origin i cell.field cell.id) (row_at tables cell.model cell.id))) at

  -- a given cell has one exactly where its row is there
  pub given-there : (info : FieldInfo) → field_at models cell.model cell.field ≡ Some info → IsGiven info → is_some (plain_at tables models cell) ≡ is_some (row_at tables cell.model cell.id)
  given-there info at given = ap is_some (value-at info at) ∙ by info.origin given (row_at tables cell.model cell.id)
    where
      by : (o : Origin) → is_given_from o ≡ true → (r : Option PlainRow) → is_some (option_and_then (plain_from tables o info cell.field cell.id) r) ≡ is_some r
      by origin.Id is None = refl
      by origin.Id is (Some row) = refl
      by origin.Plain is None = refl
      by origin.Plain is (Some row) = refl
      by (origin.Delegated to) is r = absurd cc
      by (origin.Computed formula) is r = absurd cc

  -- one that isn't given has none
  pub ungiven-none : (info : FieldInfo) → field_at models cell.model cell.field ≡ Some info → is_given_from info.origin ≡ false → plain_at tables models cell ≡ None
  ungiven-none info at given = value-at info at ∙ by info.origin given (row_at tables cell.model cell.id)
    where
      by : (o : Origin) → is_given_from o ≡ false → (r : Option PlainRow) → option_and_then (plain_from tables o info cell.field cell.id) r ≡ None
      by origin.Id is r = absurd cc
      by origin.Plain is r = absurd cc
      by (origin.Delegated to) is None = refl
      by (origin.Delegated to) is (Some row) = refl
      by (origin.Computed formula) is None = refl
      by (origin.Computed formula) is (Some row) = refl

  -- the value of a cell of a row that is there, by where its field has it from
  pub value-by : (info : FieldInfo) (o : Origin) (row : PlainRow) → field_at models cell.model cell.field ≡ Some info → info.origin ≡ o → row_at tables cell.model cell.id ≡ Some row
      → plain_at tables models cell ≡ plain_from tables o info cell.field cell.id row
  value-by info o row at is there =
      value-at info at ∙ ap (λ (o : Origin). option_and_then (plain_from tables o info cell.field cell.id) (row_at tables cell.model cell.id)) is
      ∙ ap (option_and_then (plain_from tables o info cell.field cell.id)) there

  -- and of one that isn't
  pub rowless-none : (info : FieldInfo) → field_at models cell.model cell.field ≡ Some info → row_at tables cell.model cell.id ≡ None → plain_at tables models cell ≡ None
  rowless-none info at none = value-at info at ∙ ap (option_and_then (plain_from tables info.origin info cell.field cell.id)) none

-- without a field back it is what the row keeps
pub kept-by : (tables : Tables) (info : FieldInfo) (field : FieldNo) (id : RecId) (row : PlainRow) (inverse mirror : Option FieldNo) → option_or inverse mirror ≡ None
    → plain_by tables inverse mirror info field id row ≡ kept_in row field
kept-by tables info field id row None None none = refl
kept-by tables info field id row None (Some back) none = absurd cc
kept-by tables info field id row (Some back) mirror none = absurd cc

-- and with one the list of the rows that name it
pub list-by : (tables : Tables) (info : FieldInfo) (field : FieldNo) (id : RecId) (row : PlainRow) (inverse mirror : Option FieldNo) (back : FieldNo) → option_or inverse mirror ≡ Some back
    → plain_by tables inverse mirror info field id row ≡ naming_back tables info.relation back id
list-by tables info field id row None None back is = absurd cc
list-by tables info field id row None (Some mirror) back is = ap (λ (b : FieldNo). naming_back tables info.relation b id) (same_Some mirror back is)
list-by tables info field id row (Some inverse) mirror back is = ap (λ (b : FieldNo). naming_back tables info.relation b id) (same_Some inverse back is)

-- a cell of no field has no value
pub no-field : (models : List ModelInfo) (tables : Tables) (cell : Cell) → field_at models cell.model cell.field ≡ None → plain_at tables models cell ≡ None
no-field models tables cell none = ap (option_and_then (λ i. option_and_then (plain_from tables i.origin i cell.field cell.id) (row_at tables cell.model cell.id))) none
