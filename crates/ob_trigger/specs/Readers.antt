-- Private: which fields read a field, each with the steps that lead to it, and how these are found by the field.
use Rattle.std.specs.Prelude.{◌≡◌, ◌↔◌, ◌⊎◌, ◌&&◌, ◌==◌, ℕ, List, [], ◌∷◌, Bool, Some, None, true, All, Any, Contains, Option, Vec, if◌then◌else◌, slice_get, take}
use Rattle.std.specs.Option.{option_map_or}
use Rattle.std.specs.Ordering.{nat_cmp}
use Rattle.std.specs.Global.{Global}
use Rattle.std.specs.BTreeMap as tree
use Rattle.ob_base.specs.declared.id.Cell.{Cell}
use Rattle.ob_base.specs.declared.id.RecId.{RecId}
use Rattle.ob_base.specs.declared.value.Value.{Value}
use Rattle.ob_definition.specs.Types.{is_relation}
use Rattle.ob_schema.specs.Fields.{is_plain_from}
use Rattle.ob_schema.specs.Models.{FieldHas, IsComputedBy}
use Rattle.ob_schema.specs.ReadCells.{cell_at, targets_at}
use Rattle.ob_schema.specs.declared.info.FieldInfo.{FieldInfo}
use Rattle.ob_schema.specs.declared.info.Formula.{Formula}
use Rattle.ob_schema.specs.declared.info.ModelInfo.{ModelInfo}
use Rattle.ob_schema.specs.declared.info.Origin.{Origin}
use Rattle.ob_schema.specs.declared.info.Origin.TheVariants as origin
use Rattle.ob_schema.specs.declared.info.Step.{Step}
use Rattle.ob_trigger.specs.declared.index.Reader.{Reader}

-- a step of a path, and those before it
abbrev pub IsStepBehind : List Step → List Step → Step → Type 0
IsStepBehind steps front step = (k : ℕ) × (slice_get steps k ≡ Some step) × (front ≡ take k steps)

-- a path on which a formula depends has the step behind these
abbrev pub DependsBehind : Formula → List Step → Step → Type 0
DependsBehind formula front step = Any (λ path. IsStepBehind path.steps front step) formula.depends

-- a computed field reads a field behind these steps
abbrev pub IsReaderOf : List ModelInfo → Step → Reader → Type 0
IsReaderOf models step reader = (formula : Formula) × IsComputedBy models reader.computed formula × DependsBehind formula reader.front step

-- calls give the field's value, which names rows
abbrev pub IsPlainRelation : FieldInfo → Type 0
IsPlainRelation field = (is_plain_from field.origin ≡ true) × (is_relation field.field_type ≡ true)

-- so is each of some steps
abbrev pub AllLead : List ModelInfo → List Step → Type 0
AllLead models steps = All (λ step. FieldHas models IsPlainRelation step.model step.field) steps

-- the formula that gives a value, where one does
abbrev pub formula_giving : Origin → Option Formula
formula_giving (origin.Computed formula) = Some formula
formula_giving _ = None

-- steps lead from a row to another, by what cells hold
abbrev pub IsLed : (Cell → Option Value) → List Step → RecId → RecId → Type 0
IsLed held [] row id = row ≡ id
IsLed held (step ∷ steps) row id = (target : RecId) × Contains (targets_at held (cell_at step row)) target × IsLed held steps target id

-- a cell of a reader's field, in a row from which its steps lead to a row
abbrev pub ReadsBy : (Cell → Option Value) → RecId → Reader → Cell → Type 0
ReadsBy held id reader cell = (cell ≡ cell_at reader.computed cell.id) × IsLed held reader.front cell.id id

-- the readers of the fields of one model, by the field's number
abbrev pub Fields : Type 0
Fields = tree.BTreeMap ℕ (Vec Reader Global)

abbrev pub listed_at : Fields → ℕ → List Reader
listed_at fields number = option_map_or (λ list. list.items) (tree.get nat_cmp fields number) []

-- those of all models, by the model's number
abbrev pub readers_in : tree.BTreeMap ℕ Fields → ℕ → ℕ → List Reader
readers_in index model field = option_map_or (λ fields. listed_at fields field) (tree.get nat_cmp index model) []

abbrev pub readers_at : tree.BTreeMap ℕ Fields → Step → List Reader
readers_at index step = readers_in index step.model.0 step.field.0

-- a reader, if it belongs there
abbrev pub reader_if : Bool → Reader → List Reader
reader_if b reader = if b then reader ∷ [] else []

abbrev pub is_step : Step → Step → Bool
is_step a b = (a.model.0 == b.model.0) && (a.field.0 == b.field.0)

-- readers with a property were added to those of each field
abbrev pub AddsReaders : tree.BTreeMap ℕ Fields → tree.BTreeMap ℕ Fields → (Step → Reader → Type 0) → Type 0
AddsReaders old new P = (step : Step) (reader : Reader) → Contains (readers_at new step) reader ↔ (Contains (readers_at old step) reader ⊎ P step reader)

-- each reader is found by the field that it reads, and no other
abbrev pub IsReaderIndex : List ModelInfo → tree.BTreeMap ℕ Fields → Type 0
IsReaderIndex models index = (step : Step) (reader : Reader) → Contains (readers_at index step) reader ↔ IsReaderOf models step reader
