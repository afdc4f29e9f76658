-- A row is locked as the value of its model's condition says.
use Rattle.std.proofs.Common.{◌≡◌, Bool, true, false, List, Option, Some, None, Ok, sym, ap, subst, ◌∙◌}
use Rattle.std.specs.Prelude.{IfSome, IsSomeAnd, option_and_then}
use Rattle.ob_base.specs.declared.id.Cell.{Cell}
use Rattle.ob_base.specs.declared.id.FieldNo.{FieldNo}
use Rattle.ob_base.specs.declared.id.RowKey.{RowKey}
use Rattle.ob_base.specs.declared.value.Value.{Value}
use Rattle.ob_base.specs.declared.value.Value.TheVariants as value
use Rattle.ob_rows.specs.Locks.{IsLocked, locking_field}
use Rattle.ob_schema.specs.Models.{HasModel, model_at}
use Rattle.ob_schema.specs.Tables.{Tables}
use Rattle.ob_schema.specs.Val.{val}
use Rattle.ob_schema.specs.declared.info.ModelInfo.{ModelInfo}
use Rattle.ob_tables.proofs.CallerLemmas.{is_there, known_if, tell_and}

-- the value is true
is_true : Option Value → Bool
is_true (Some (value.Bool b)) = b
is_true _ = false

module _ (models : List ModelInfo) (tables : Tables) (row : RowKey) (model : HasModel models row.model) where
  abbrev numbered : Option FieldNo
  numbered = option_and_then locking_field (model_at models row.model)

  -- the number of the condition, as the code has it
  number-is : (o : Option FieldNo) → IfSome (model_at models row.model) (λ info. o ≡ locking_field info) → numbered ≡ o
  number-is o is =
      let info = is_there (model_at models row.model) model in
      ap (option_and_then locking_field) info.1 ∙ sym (known_if (model_at models row.model) info.0 (λ i. o ≡ locking_field i) info.1 is)

  -- without a condition no row is locked
  pub unlocked : IfSome (model_at models row.model) (λ info. ◌≡◌ {A = Option FieldNo} None (locking_field info)) → IsLocked models tables row → ⊥
  unlocked none locked = let is : IsSomeAnd None (λ field. val models tables (record { model = row.model; id = row.id; field = field }) ≡ Ok (value.Bool true)) =
      subst (λ (o : Option FieldNo). IsSomeAnd o (λ field. val models tables (record { model = row.model; id = row.id; field = field }) ≡ Ok (value.Bool true))) (number-is None none) locked in is

  module _ (field : FieldNo) (is : IfSome (model_at models row.model) (λ info. ◌≡◌ {A = Option FieldNo} (Some field) (locking_field info))) where
    abbrev cell : Cell
    cell = record { model = row.model; id = row.id; field = field }

    same : numbered ≡ Some field
    same = number-is (Some field) is

    -- where its value is true the row is locked
    pub locked : val models tables cell ≡ Ok (value.Bool true) → IsLocked models tables row
    locked holds = tell_and numbered field (λ f. val models tables (record { model = row.model; id = row.id; field = f }) ≡ Ok (value.Bool true)) same holds
