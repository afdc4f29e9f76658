-- A computed cell that has a value is broken by formulas only as a check that is false.
use Rattle.std.proofs.Common.{◌≡◌, List, Option, None, Some, Bool, true, false, Result, Ok, Err, refl, sym, ap, ◌∙◌}
use Rattle.std.specs.Prelude.{◌↔◌, IsSome, IsSomeAnd, IsTrue}
use Rattle.ob_base.specs.declared.id.Cell.{Cell}
use Rattle.ob_base.specs.declared.refusal.BrokenKind.{BrokenKind}
use Rattle.ob_base.specs.declared.refusal.BrokenKind.TheVariants as kind
use Rattle.ob_base.specs.declared.value.Value.{Value}
use Rattle.ob_base.specs.declared.value.Value.TheVariants as value
use Rattle.ob_expr.specs.Computing.{Lack, overflow, too_long, zero_divisor}
use Rattle.ob_schema.specs.Broken.{FailsItself, IsFalseCheck}
use Rattle.ob_schema.specs.Checks.{IsCheck}
use Rattle.ob_schema.specs.Links.{Sides}
use Rattle.ob_schema.specs.Models.{field_at, model_at}
use Rattle.ob_schema.specs.Tables.{Tables, row_at}
use Rattle.ob_schema.specs.Tied.{AtCell}
use Rattle.ob_schema.specs.Val.{IsVal, formula_value, or_inherited, val}
use Rattle.ob_schema.specs.declared.info.Formula.{Formula}
use Rattle.ob_schema.specs.declared.info.ModelInfo.{ModelInfo}
use Rattle.ob_schema.specs.declared.info.Origin.TheVariants as origin
use Rattle.ob_sound.specs.EditsBreak.{EditsPass, EditsTie}
use Rattle.ob_sound.specs.FormulasBreak.{FormulasBreak}
use Rattle.ob_tables.proofs.CallerLemmas.{is_there, told_and, value_there}

no-is-yes : false ≡ true → ⊥
no-is-yes is = cc

both-not : (m : Result Value Lack) (v : Value) (why : Lack) → m ≡ Ok v → m ≡ Err why → ⊥
both-not m v why is lacks = let both : Ok v ≡ Err why = sym is ∙ lacks in cc

same-value : (m : Result Value Lack) (v w : Value) → m ≡ Ok v → m ≡ Ok w → v ≡ w
same-value m v w is also = let both : Ok v ≡ Ok w = sym is ∙ also in cc

some-weaker : {X : Type 0} (P Q : X → Type 0) → ((x : X) → P x → Q x) → (o : Option X) → IsSomeAnd o P → IsSomeAnd o Q
some-weaker P Q more None none = none
some-weaker P Q more (Some x) one = more x one

module _ (models : List ModelInfo) (tables : Tables) (cell : Cell) (v : Value) (is : val models tables cell ≡ Ok v) where
  module _ (law : IsVal models tables (val models tables)) where
    -- its formula doesn't fail
    fails-not : (why : Lack) → ((held : Cell → Result Value Lack) → or_inherited held (Err why) ≡ Err why) → FailsItself models tables why cell → ⊥
    fails-not why own fails =
        let t = told_and (field_at models cell.model cell.field) (λ info. (formula : Formula) × (info.origin ≡ origin.Computed formula) × (formula_value (val models tables) formula info cell ≡ Err why)) fails.1 in
        let row = is_there (row_at tables cell.model cell.id) fails.0 in
        let lacks : val models tables cell ≡ Err why =
        law cell ∙ value_there models tables (val models tables) cell row.0 t.0 (origin.Computed t.2.0) row.1 t.1 t.2.1 ∙ ap (or_inherited (val models tables)) t.2.2 ∙ own (val models tables) in
        both-not (val models tables cell) v why is lacks

    -- nothing is broken but a check
    pub unbroken : (IsFalseCheck models tables cell → ⊥) → (broken : BrokenKind) → FormulasBreak models tables broken cell → ⊥
    unbroken checks kind.Overflow breaks = fails-not overflow (λ held. refl) breaks
    unbroken checks kind.TooLong breaks = fails-not too_long (λ held. refl) breaks
    unbroken checks kind.ZeroDivisor breaks = fails-not zero_divisor (λ held. refl) breaks
    unbroken checks kind.Check breaks = checks breaks
    unbroken checks _ breaks = breaks

  -- the test of a check
  abbrev pub Tests : Type 0
  Tests = (v ≡ value.Bool false) × IsSomeAnd (model_at models cell.model) (λ info. IsSomeAnd (field_at models cell.model cell.field) (IsCheck info cell.field))

  -- tells whether it is false
  pub false-check : IsSome (row_at tables cell.model cell.id) → Tests → IsFalseCheck models tables cell
  false-check there tests = (
    some-weaker (λ (info : ModelInfo). IsSomeAnd (field_at models cell.model cell.field) (IsCheck info cell.field)) (λ (info : ModelInfo). AtCell models tables cell (IsCheck info cell.field))
        (λ info check. (there, check)) (model_at models cell.model) tests.1,
    is ∙ ap (λ (w : Value). Ok w) tests.0,
  )

  pub tested-check : IsFalseCheck models tables cell → Tests
  tested-check fails = (
    same-value (val models tables cell) v (value.Bool false) is fails.1,
    some-weaker (λ (info : ModelInfo). AtCell models tables cell (IsCheck info cell.field)) (λ (info : ModelInfo). IsSomeAnd (field_at models cell.model cell.field) (IsCheck info cell.field))
        (λ info check. check.1) (model_at models cell.model) fails.0,
  )

  pub check-passes : (b : Bool) → b ≡ false → IsTrue b ↔ Tests → IsFalseCheck models tables cell → ⊥
  check-passes b is_false test fails = no-is-yes (sym is_false ∙ test.1 (tested-check fails))

-- where all tests pass those by which rows can be followed do
pub passes-tie : (models : List ModelInfo) (sides : Sides) → EditsPass models sides → EditsTie models sides
passes-tie models sides pass = record { named = pass kind.MissingRef; trees = pass kind.Tree; depths = pass kind.Depth }
