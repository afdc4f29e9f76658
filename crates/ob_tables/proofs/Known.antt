-- A value that a computed cell has is the outcome of its formula.
use Rattle.std.proofs.Common.{◌≡◌, true, List, Result, Ok, refl, sym, subst, ◌∙◌}
use Rattle.std.specs.Prelude.{IsSome, IsSomeAnd}
use Rattle.ob_base.specs.declared.id.Cell.{Cell}
use Rattle.ob_base.specs.declared.value.Value.{Value}
use Rattle.ob_expr.specs.Computing.{Lack}
use Rattle.ob_expr.specs.Reads.{GivesCellsValues}
use Rattle.ob_expr.specs.TypedTree.{TypedTree}
use Rattle.ob_expr.specs.ValueKinds.{GivesItsKind}
use Rattle.ob_schema.specs.Models.{IsRegistry, field_at, is_computed_from}
use Rattle.ob_schema.specs.Tables.{Fits, Tables, row_at}
use Rattle.ob_schema.specs.Tied.{IsTied}
use Rattle.ob_schema.specs.Val.{enough, formula_value, val, value_from}
use Rattle.ob_schema.specs.declared.info.Formula.{Formula}
use Rattle.ob_schema.specs.declared.info.ModelInfo.{ModelInfo}
use Rattle.ob_schema.specs.declared.info.Origin.{Origin}
use Rattle.ob_schema.specs.declared.info.Origin.TheVariants as origin
use Rattle.ob_tables.specs.Settling.{IsFormulaOutcome, IsOutcomeOf}
use Rattle.ob_tables.specs.declared.outcome.Outcome.TheVariants as outcome
use Rattle.ob_tables.proofs.Expressions.{AreLaws}
use Rattle.ob_tables.proofs.FromScratch.{is_val}
use Rattle.ob_tables.proofs.KnownFields.{is_there, tell_and, told_and}
use Rattle.ob_tables.proofs.Stable.{value_there}
use Rattle.ob_tables.proofs.TypedValues.{formula-gives, kinds_in}
use Rattle.ob_tables.proofs.Within.{values_are}

-- the formula of a computed field
its-formula : (o : Origin) → is_computed_from o ≡ true → (formula : Formula) × (o ≡ origin.Computed formula)
its-formula origin.Id computed = absurd cc
its-formula origin.Plain computed = absurd cc
its-formula (origin.Delegated to) computed = absurd cc
its-formula (origin.Computed formula) computed = (formula, refl)

-- the value that a computed cell of a row has
pub value-outcome : AreLaws → ((tree : TypedTree) → GivesItsKind tree) → ((tree : TypedTree) → GivesCellsValues tree) → (models : List ModelInfo) (tables : Tables)
    → IsRegistry models → Fits models tables → IsTied models tables → (c : Cell) (v : Value) → IsSome (row_at tables c.model c.id)
    → IsSomeAnd (field_at models c.model c.field) (λ info. is_computed_from info.origin ≡ true) → val models tables c ≡ Ok v → IsOutcomeOf models tables c (outcome.Value v)
value-outcome laws kinds gives models tables registry fits tied c v there computed has =
    let t = told_and (field_at models c.model c.field) (λ info. is_computed_from info.origin ≡ true) computed in
    let formula = its-formula t.0.origin t.2 in
    let row = is_there (row_at tables c.model c.id) there in
    let steps : value_from models tables (val models tables) (origin.Computed formula.0) t.0 c ≡ Ok v =
    sym (value_there models tables (val models tables) c row.0 t.0 (origin.Computed formula.0) row.1 t.1 formula.1) ∙ sym (is_val laws models tables registry fits tied c) ∙ has in
    let given = formula-gives laws kinds gives models tables registry fits (val models tables) c t.0 formula.0 v steps in
    let told = subst (λ (f : Cell → Result Value Lack). formula_value f formula.0 t.0 c ≡ Ok v) (sym (values_are models tables)) given in (
      there,
      tell_and (field_at models c.model c.field) t.0 (IsFormulaOutcome models tables c (outcome.Value v)) t.1
          (formula.0, formula.1, told, λ k is. kinds_in laws kinds gives models tables registry fits (enough models tables) c t.0 k v t.1 is has),
    )
