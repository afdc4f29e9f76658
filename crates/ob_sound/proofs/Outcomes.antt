-- Behind a change of sound tables, what formulas break is what has another outcome than before.
use Rattle.std.proofs.Common.{◌≡◌, ◌<◌, ◌≤◌, ◌++◌, inl, inr, ℕ, zero, suc, length, true, List, [], ◌∷◌, Option, Some, option_and_then, Result, Ok, Err, refl, sym, ap, subst, ◌∙◌, arith}
use Rattle.std.specs.Prelude.{All, IsOk, IsSome, slice_get}
use Rattle.std.proofs.lemmas.Option.{get_or_from_slice_get, slice_get_within}
use Rattle.ob_base.specs.declared.id.Cell.{Cell}
use Rattle.ob_base.specs.declared.refusal.BrokenKind.{BrokenKind}
use Rattle.ob_base.specs.declared.refusal.BrokenKind.TheVariants as kind
use Rattle.ob_base.specs.declared.value.Value.{Value}
use Rattle.ob_expr.specs.Computing.{Lack, overflow, too_long, zero_divisor}
use Rattle.ob_schema.specs.Broken.{AreSound, FailsItself, IsFalseCheck}
use Rattle.ob_schema.specs.Built.{numbered}
use Rattle.ob_schema.specs.Checks.{IsCheck}
use Rattle.ob_schema.specs.Links.{Sides}
use Rattle.ob_schema.specs.Models.{IsCondition, IsRegistry, field_at, fields_of, is_computed_from, model_at}
use Rattle.ob_schema.specs.Tables.{row_at}
use Rattle.ob_schema.specs.Tied.{AtCell}
use Rattle.ob_schema.specs.Val.{IsVal, formula_value, or_inherited, val}
use Rattle.ob_schema.specs.declared.info.FieldInfo.{FieldInfo}
use Rattle.ob_schema.specs.declared.info.Formula.{Formula}
use Rattle.ob_schema.specs.declared.info.ModelInfo.{ModelInfo}
use Rattle.ob_schema.specs.declared.info.Origin.{Origin}
use Rattle.ob_schema.specs.declared.info.Origin.TheVariants as origin
use Rattle.ob_sound.specs.FormulasBreak.{FormulasBreak}
use Rattle.ob_tables.proofs.CallerLemmas.{is_there, some_or_none, sound-tied, tell_and, there_is, told_and, value_there}
use Rattle.ob_trigger.specs.Affected.{Changed, IsComputedField}

-- what stands past the first list stands in the second
past_front : {X : Type 0} (xs ys : List X) (k : ℕ) (x : X) → length xs ≤ k → slice_get (xs ++ ys) k ≡ Some x → (j : ℕ) × (slice_get ys j ≡ Some x)
past_front [] ys k x past is = (k, is)
past_front (y ∷ xs) ys zero x past is = absurd (omega (arith, past))
past_front (y ∷ xs) ys (suc k) x past is = past_front xs ys k x (omega (arith, past)) is

-- and by its number
past_named : {X : Type 0} (xs ys : List X) (n : ℕ) (x : X) → length xs < n → numbered (xs ++ ys) n ≡ Some x → (j : ℕ) × (slice_get ys j ≡ Some x)
past_named xs ys zero x past is = absurd (omega (arith, past))
past_named xs ys (suc k) x past is = past_front xs ys k x (omega (arith, past)) is

all_at : {X : Type 0} (P : X → Type 0) (xs : List X) (j : ℕ) (x : X) → All P xs → slice_get xs j ≡ Some x → P x
all_at P xs j x all is = subst P (get_or_from_slice_get xs j x x is) (all j x (slice_get_within xs j x is))

err_ok : (m : Result Value Lack) (why : Lack) → m ≡ Err why → IsOk m → ⊥
err_ok (Ok v) why is ok = absurd cc
err_ok (Err lack) why is ok = absurd cc

module _ (models : List ModelInfo) (sides : Sides) (registry : IsRegistry models) (sound : AreSound models sides.before)
    (valued : (cell : Cell) → IsSome (row_at sides.before cell.model cell.id) → IsSome (field_at models cell.model cell.field) → IsOk (val models sides.before cell)) (law : IsVal models sides.behind (val models sides.behind)) where
  -- where an outcome behind is none that the row had before, the change changes it
  changed_unless : (cell : Cell) (info : FieldInfo) → IsSome (row_at sides.behind cell.model cell.id) → field_at models cell.model cell.field ≡ Some info → is_computed_from info.origin ≡ true
      → (IsSome (row_at sides.before cell.model cell.id) → val models sides.before cell ≡ val models sides.behind cell → ⊥) → Changed models sides cell
  changed_unless cell info there at computed differs = (
    (there, tell_and (field_at models cell.model cell.field) info IsComputedField at computed),
    elim (some_or_none (row_at sides.before cell.model cell.id)) [ inl none ↦ inl none | inr some ↦ inr (differs (there_is (row_at sides.before cell.model cell.id) some.0 some.1)) ],
  )

  -- a formula that fails itself
  fails_changed : (why : Lack) (cell : Cell) → or_inherited (val models sides.behind) (Err why) ≡ Err why → FailsItself models sides.behind why cell → Changed models sides cell
  fails_changed why cell own (there, fails) =
      let Fails : FieldInfo → Type 0 = λ info. (formula : Formula) × (info.origin ≡ origin.Computed formula) × (formula_value (val models sides.behind) formula info cell ≡ Err why) in
      let row = is_there (row_at sides.behind cell.model cell.id) there in
      let f = told_and (field_at models cell.model cell.field) Fails fails in
      let is : val models sides.behind cell ≡ Err why =
      law cell ∙ value_there models sides.behind (val models sides.behind) cell row.0 f.0 (origin.Computed f.2.0) row.1 f.1 f.2.1 ∙ ap (or_inherited (val models sides.behind)) f.2.2 ∙ own in
      changed_unless cell f.0 there f.1 (ap (λ (o : Origin). is_computed_from o) f.2.1)
      (λ was same. err_ok (val models sides.before cell) why (same ∙ is) (valued cell was (there_is (field_at models cell.model cell.field) f.0 f.1)))

  -- a check that is false
  check_changed : (cell : Cell) → IsFalseCheck models sides.behind cell → Changed models sides cell
  check_changed cell (checks, is) =
      let m = told_and (model_at models cell.model) (λ info. AtCell models sides.behind cell (IsCheck info cell.field)) checks in
      let f = told_and (field_at models cell.model cell.field) (IsCheck m.0 cell.field) m.2.1 in
      let at : numbered (fields_of m.0) cell.field.0 ≡ Some f.0 = sym (ap (λ (o : Option ModelInfo). option_and_then (λ i. numbered (fields_of i) cell.field.0) o) m.1) ∙ f.1 in
      let hidden = past_named m.0.fields m.0.hidden cell.field.0 f.0 f.2.0 at in
      let condition = all_at IsCondition m.0.hidden hidden.0 f.0 (registry.each cell.model m.0 m.1).conditions hidden.1 in
      changed_unless cell f.0 m.2.0 f.1 condition.computed
      (λ was same. sound.sound (record { kind = kind.Check; cell = cell }) (
        sound-tied models sides.before sound,
        (tell_and (model_at models cell.model) m.0 (λ info. AtCell models sides.before cell (IsCheck info cell.field)) m.1 (was, m.2.1), same ∙ is),
      ))

  pub broken_changed : (broken : BrokenKind) (cell : Cell) → FormulasBreak models sides.behind broken cell → Changed models sides cell
  broken_changed kind.Overflow cell fails = fails_changed overflow cell refl fails
  broken_changed kind.TooLong cell fails = fails_changed too_long cell refl fails
  broken_changed kind.ZeroDivisor cell fails = fails_changed zero_divisor cell refl fails
  broken_changed kind.Check cell fails = check_changed cell fails
  broken_changed _ cell fails = absurd fails
