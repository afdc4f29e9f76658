-- Private: how fields are told, by what is kept for their cells.
use Rattle.std.specs.Prelude.{◌≡◌, ◌≢◌, ◌↔◌, ℕ, pos, List, [], ◌∷◌, ◌++◌, map, length, IsTrue, Option, Some, None, Ok, true}
use Rattle.std.specs.List.{AllByRecursion, AllZip}
use Rattle.std.specs.Option.{option_map_or}
use Rattle.ob_base.specs.declared.id.Cell.{Cell}
use Rattle.ob_base.specs.declared.id.ModelNo.{ModelNo}
use Rattle.ob_base.specs.declared.id.RecId.{RecId}
use Rattle.ob_base.specs.declared.value.Value.{Value}
use Rattle.ob_audit.specs.Report.{AreByName, FieldOf, IsJsonText, differs_line, equal_line, last_line, model_name, stored_fields, sum_line}
use Rattle.ob_audit.specs.Sums.{AreTotals, Goods, goods_in}
use Rattle.ob_audit.specs.declared.comparing.Difference.{Difference}
use Rattle.ob_audit.specs.declared.report.Report.{Report}
use Rattle.ob_audit.specs.declared.sums.QuantFields.{QuantFields}
use Rattle.ob_schema.specs.Fields.{Holds}
use Rattle.ob_schema.specs.Models.{FieldHas, HasModel, field_at, is_given_from}
use Rattle.ob_schema.specs.Tables.{Standing, ids_in}
use Rattle.ob_schema.specs.Val.{val}
use Rattle.ob_schema.specs.declared.info.ModelInfo.{ModelInfo}
use Rattle.ob_schema.specs.declared.info.Step.{Step}

-- the cell of a field of a model in a row
abbrev pub cell_at : Step → RecId → Cell
cell_at at id = record { model = at.model; id = id; field = at.field }

-- a cell is one of a field of a model
abbrev pub IsIn : Step → Cell → Type 0
IsIn at cell = (cell.model ≡ at.model) × (cell.field ≡ at.field)

-- where a field stands
abbrev pub step_of : FieldOf → Step
step_of field = record { model = field.0; field = record { 0 = field.1.0 } }

-- the field of a number, where there is one
abbrev pub field_of : List ModelInfo → Step → List FieldOf
field_of models at = option_map_or (λ info. (at.model, (at.field.0, info)) ∷ []) (field_at models at.model at.field) []

-- both values of a difference are ones that the field may hold
abbrev pub FitDifference : List ModelInfo → Step → Difference → Type 0
FitDifference models at d = FieldHas models (λ info. Holds info d.kept × Holds info d.scratch) at.model at.field

-- a line by the first of a field that differs
abbrev pub LineBy : (model field : List ℕ) → ℕ → Option Difference → List ℕ → Type 0
LineBy model field rows None line = line ≡ equal_line model field rows
LineBy model field rows (Some d) line = (kept scratch : List ℕ) × IsJsonText d.kept kept × IsJsonText d.scratch scratch × (line ≡ differs_line model field rows d.id kept scratch)

module _ (standing : Standing) where
  -- the value of a cell from scratch, where it is another than this one
  abbrev pub IsOther : Cell → Value → Option Value → Type 0
  IsOther cell kept (Some scratch) = (val standing.models standing.tables cell ≡ Ok scratch) × (scratch ≢ kept)
  IsOther cell kept None = (scratch : Value) → val standing.models standing.tables cell ≡ Ok scratch → scratch ≢ kept → ⊥

  -- what is kept for a cell is no other than its value from scratch
  abbrev pub IsRight : Cell × Value → Type 0
  IsRight s = IsOther s.0 s.1 None

  -- what is kept for a cell is judged: of one of the field, the difference, where there is one
  abbrev pub IsJudged : Step → Cell → Value → Option Difference → Type 0
  IsJudged at cell kept None = IsIn at cell → IsRight (cell, kept)
  IsJudged at cell kept (Some d) = (cell ≡ cell_at at d.id) × (d.kept ≡ kept) × (val standing.models standing.tables cell ≡ Ok d.scratch) × (d.scratch ≢ kept)

  -- so is all that is kept for a field
  abbrev pub AreRightIn : Step → List (Cell × Value) → Type 0
  AreRightIn at some = AllByRecursion (λ s. IsIn at s.0 → IsRight s) some

  module _ (stored : List (Cell × Value)) where
    -- the first that is kept for a field and isn't
    pub record IsFirstWrong (at : Step) (d : Difference) : Type 0 where
      pub front : List (Cell × Value)
      pub rest : List (Cell × Value)
      pub split : stored ≡ front ++ (cell_at at d.id, d.kept) ∷ rest
      pub before : AreRightIn at front
      pub valued : val standing.models standing.tables (cell_at at d.id) ≡ Ok d.scratch
      pub other : d.scratch ≢ d.kept

    abbrev pub IsFound : Step → Option Difference → Type 0
    IsFound at None = AreRightIn at stored
    IsFound at (Some d) = IsFirstWrong at d

    -- a field is told by the first that is wrong
    pub record TellsBy (field : FieldOf) (line : List ℕ) : Type 0 where
      pub found : Option Difference
      pub is : IsFound (step_of field) found
      pub text : LineBy (model_name standing.models field.0) field.1.1.name (length (ids_in standing.tables field.0)) found line

    -- nothing of a field is wrong
    abbrev pub AgreesBy : FieldOf → Type 0
    AgreesBy field = AreRightIn (step_of field) stored

    -- a report has lines for these fields more, and is equal where nothing of them is wrong
    pub record AddsFields (fields : List FieldOf) (old new : Report) : Type 0 where
      pub told : List (List ℕ)
      pub lines : new.lines ≡ old.lines ++ told
      pub each : AllZip TellsBy fields told
      pub equal : IsTrue new.equal ↔ (IsTrue old.equal × AllByRecursion AgreesBy fields)

    -- a line for each stored computed field more
    pub record AddsByName (old new : Report) : Type 0 where
      pub named : List (ModelNo × List ℕ)
      pub by_name : AreByName standing.models named
      pub adds : AddsFields (stored_fields standing.models named) old new

-- the model and the fields of quants are there, and the fields are given
pub record AreGiven (models : List ModelInfo) (fields : QuantFields) : Type 0 where
  pub model : HasModel models fields.model
  pub product : FieldHas models (λ info. is_given_from info.origin ≡ true) fields.model fields.product
  pub quantity : FieldHas models (λ info. is_given_from info.origin ≡ true) fields.model fields.quantity

-- a report has a line for each product of which there are goods more, and is equal where each sum is 0
pub record AddsSums (goods : List Goods) (old new : Report) : Type 0 where
  pub totals : List Goods
  pub are : AreTotals goods totals
  pub lines : new.lines ≡ old.lines ++ map sum_line totals
  pub equal : IsTrue new.equal ↔ (IsTrue old.equal × AllByRecursion (λ total. total.1 ≡ pos 0) totals)

-- a report on tables, by what is kept for their computed cells
pub record IsFull (standing : Standing) (stored : List (Cell × Value)) (report : Report) : Type 0 where
  pub named : List (ModelNo × List ℕ)
  pub by_name : AreByName standing.models named
  pub told : List (List ℕ)
  pub each : AllZip (TellsBy standing stored) (stored_fields standing.models named) told
  pub totals : List Goods
  pub are : AreTotals (goods_in standing.models standing.tables) totals
  pub lines : report.lines ≡ told ++ map sum_line totals ++ last_line report.equal ∷ []
  pub equal : IsTrue report.equal ↔ (AllByRecursion (AgreesBy standing stored) (stored_fields standing.models named) × AllByRecursion (λ total. total.1 ≡ pos 0) totals)
