-- A computed cell to which a change of sound tables gives no other outcome has the value that it had.
use Rattle.std.proofs.Common.{◌≡◌, ◌≢◌, inl, inr, List, Result, Ok, Err, refl, ap}
use Rattle.std.specs.Prelude.{IsOk, IsSome}
use Rattle.ob_base.specs.declared.id.Cell.{Cell}
use Rattle.ob_base.specs.declared.value.Value.{Value}
use Rattle.ob_expr.specs.Computing.{Lack}
use Rattle.ob_schema.specs.Links.{Sides}
use Rattle.ob_schema.specs.Models.{field_at}
use Rattle.ob_schema.specs.Tables.{row_at}
use Rattle.ob_schema.specs.Val.{val}
use Rattle.ob_schema.specs.declared.info.ModelInfo.{ModelInfo}
use Rattle.ob_tables.proofs.CallerLemmas.{some_or_none, there_is, told_and}
use Rattle.ob_trigger.specs.Affected.{Changed, IsComputedBehind, IsComputedField}
use Rattle.ob_sound.proofs.Unedited.{same_value}

-- equal outcomes have equal values
same_value_in : (m n : Result Value Lack) (v w : Value) → m ≡ Ok v → n ≡ Ok w → m ≡ n → v ≡ w
same_value_in m n v w first second is = cc

-- a value and an outcome are one if they aren't two
same_ok : (m n : Result Value Lack) → IsOk m → (m ≢ n → ⊥) → m ≡ n
same_ok (Ok v) (Ok w) ok not = elim (same_value v w) [
  | inl is ↦ ap Ok is
  | inr apart ↦ absurd (not (λ is. apart (same_value_in (Ok v) (Ok w) v w refl refl is)))
]
same_ok (Ok v) (Err why) ok not = absurd (not (λ is. cc))
same_ok (Err why) n ok not = absurd cc

pub value_kept : (models : List ModelInfo) (sides : Sides) (cell : Cell)
    → (IsSome (row_at sides.before cell.model cell.id) → IsSome (field_at models cell.model cell.field) → IsOk (val models sides.before cell)) → IsComputedBehind models sides cell → (Changed models sides cell → ⊥)
    → val models sides.before cell ≡ val models sides.behind cell
value_kept models sides cell valued computed not = elim (some_or_none (row_at sides.before cell.model cell.id)) [
  | inl none ↦ absurd (not (computed, inl none))
  | inr some ↦ (let f = told_and (field_at models cell.model cell.field) IsComputedField computed.1 in
      same_ok (val models sides.before cell) (val models sides.behind cell) (valued (there_is (row_at sides.before cell.model cell.id) some.0 some.1) (there_is (field_at models cell.model cell.field) f.0 f.1))
      (λ differs. not (computed, inr differs)))
]
