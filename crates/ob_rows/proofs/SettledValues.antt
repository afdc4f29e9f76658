-- Values that were settled, as the rows keep them.
use Rattle.std.proofs.Common.{◌≡◌, ◌&&◌, ◌+◌, ◌*◌, ℕ, suc, Bool, true, false, not, List, Option, Some, None, Result, Ok, Err, refl, sym, ap, ◌∙◌, arith}
use Rattle.std.specs.Prelude.{IsSome, is_none, is_some, option_and_then, unwrap_or}
use Rattle.std.specs.FinMap as finite
use Rattle.ob_base.specs.declared.id.Cell.{Cell}
use Rattle.ob_base.specs.declared.id.FieldNo.{FieldNo}
use Rattle.ob_base.specs.declared.value.Value.{Value}
use Rattle.ob_base.specs.declared.value.Value.TheVariants as value
use Rattle.ob_definition.specs.Types.{is_one2many}
use Rattle.ob_expr.specs.Computing.{Lack, unread}
use Rattle.ob_expr.specs.Meaning.{value_at}
use Rattle.ob_base.specs.Limits.{max_stratum, max_tree_depth}
use Rattle.ob_rows.proofs.Contained.{contrary}
use Rattle.ob_rows.specs.LockSteps.{IsSettledAt}
use Rattle.ob_schema.specs.Fields.{is_own, is_plain_from, is_plain_kept}
use Rattle.ob_schema.specs.Models.{IsRegistry, field_at}
use Rattle.ob_schema.specs.Plain.{plain_at, plain_by, plain_from}
use Rattle.ob_schema.specs.Tables.{PlainRow, Tables, kept_at, kept_in, row_at}
use Rattle.ob_schema.specs.Val.{enough, val, value_by, value_in}
use Rattle.ob_schema.specs.declared.info.FieldInfo.{FieldInfo}
use Rattle.ob_schema.specs.declared.info.ModelInfo.{ModelInfo}
use Rattle.ob_schema.specs.declared.info.Origin.{Origin}
use Rattle.ob_schema.specs.declared.info.Origin.TheVariants as origin
use Rattle.ob_tables.proofs.CallerLemmas.{Field-at, plain_is, value_absent, value_there}

both_true : (a b : Bool) → (a && b) ≡ true → (a ≡ true) × (b ≡ true)
both_true true b is = (refl, is)
both_true false b is = absurd cc

nothing : {X : Type 0} (o : Option X) → is_none o ≡ true → o ≡ None
nothing None is = refl
nothing (Some x) is = absurd cc

never : {X : Type 0} (o : Option X) (b : Bool) → is_some o ≡ b → not b ≡ true → o ≡ None
never None b is not = refl
never (Some x) true is not = absurd cc
never (Some x) false is not = absurd cc

module _ (models : List ModelInfo) (tables : Tables) (registry : IsRegistry models) (cell : Cell) (info : FieldInfo) (at : field_at models cell.model cell.field ≡ Some info) (plain : is_plain_kept info ≡ true) where
  own : (is_plain_from info.origin ≡ true) × (is_own info ≡ true)
  own = both_true (is_plain_from info.origin) (is_own info) plain

  from : info.origin ≡ origin.Plain
  from = plain_is info.origin own.0

  kept : (not (is_one2many info.field_type) ≡ true) × (is_none info.mirror ≡ true)
  kept = both_true (not (is_one2many info.field_type)) (is_none info.mirror) own.1

  inverse : info.inverse ≡ None
  inverse = never info.inverse (is_one2many info.field_type) (Field-at models cell.model cell.field info registry at).right.inverse kept.0

  -- the plain value is what the row keeps
  plain-value : (row : PlainRow) → row_at tables cell.model cell.id ≡ Some row → plain_at tables models cell ≡ Some (kept_in row cell.field)
  plain-value row there =
      ap (option_and_then (λ (i : FieldInfo). option_and_then (plain_from tables i.origin i cell.field cell.id) (row_at tables cell.model cell.id))) at
      ∙ ap (option_and_then (plain_from tables info.origin info cell.field cell.id)) there
      ∙ ap (λ (o : Origin). plain_from tables o info cell.field cell.id row) from
      ∙ ap (λ (o : Option FieldNo). Some (plain_by tables o info.mirror info cell.field cell.id row)) inverse
      ∙ ap (λ (o : Option FieldNo). Some (plain_by tables None o info cell.field cell.id row)) (nothing info.mirror kept.1)

  stepped : (n m : ℕ) → m ≡ suc n → value_in models tables m cell ≡ value_by models tables (value_in models tables n) cell
  stepped n m is = ap (λ (k : ℕ). value_in models tables k cell) is

  one_more : (m n : ℕ) → m ≡ n + 2 → m ≡ suc (n + 1)
  one_more m n is = omega arith

  -- so is the value from scratch
  settled-value : (row : PlainRow) → row_at tables cell.model cell.id ≡ Some row → val models tables cell ≡ value_at cell (Some (kept_in row cell.field))
  settled-value row there =
      stepped (max_tree_depth * (max_stratum + 1) + 1) (enough models tables) (one_more (enough models tables) (max_tree_depth * (max_stratum + 1)) refl)
      ∙ value_there models tables (value_in models tables (max_tree_depth * (max_stratum + 1) + 1)) cell row info origin.Plain there at from ∙ ap (value_at cell) (plain-value row there)

  -- without a row there is no value
  absent-value : row_at tables cell.model cell.id ≡ None → val models tables cell ≡ Err (unread cell)
  absent-value none =
      stepped (max_tree_depth * (max_stratum + 1) + 1) (enough models tables) (one_more (enough models tables) (max_tree_depth * (max_stratum + 1)) refl)
      ∙ value_absent models tables (value_in models tables (max_tree_depth * (max_stratum + 1) + 1)) cell none

some_none : (row : PlainRow) → Some row ≡ None → ⊥
some_none row is = cc

same_ok : (a b : Value) → ◌≡◌ {A = Result Value Lack} (Ok a) (Ok b) → a ≡ b
same_ok a b is = cc

module _ (models : List ModelInfo) (tables : Tables) (registry : IsRegistry models) (cell : Cell) (info : FieldInfo) (at : field_at models cell.model cell.field ≡ Some info) (plain : is_plain_kept info ≡ true) where
  nowhere : (o : Option FieldInfo) → option_and_then (λ (i : FieldInfo). option_and_then (plain_from tables i.origin i cell.field cell.id) None) o ≡ None
  nowhere None = refl
  nowhere (Some i) = refl

  no_value : (v : Value) → ◌≡◌ {A = Result Value Lack} (Err (unread cell)) (Ok v) → ⊥
  no_value v is = cc

  -- a plain value that was settled is that of the tables, and there is none where none was told
  pub settled-plain : (o : Option Value) → IsSettledAt models tables cell o → plain_at tables models cell ≡ o
  settled-plain None none =
      ap (λ (r : Option PlainRow). option_and_then (λ (i : FieldInfo). option_and_then (plain_from tables i.origin i cell.field cell.id) r) (field_at models cell.model cell.field)) none
      ∙ nowhere (field_at models cell.model cell.field)
  settled-plain (Some v) is = by (row_at tables cell.model cell.id) refl
    where
      by : (o : Option PlainRow) → row_at tables cell.model cell.id ≡ o → plain_at tables models cell ≡ Some v
      by None none = absurd (no_value v (sym (absent-value models tables registry cell info at plain none) ∙ is))
      by (Some row) there =
          let value : val models tables cell ≡ Ok (kept_in row cell.field) = settled-value models tables registry cell info at plain row there in
          plain-value models tables registry cell info at plain row there ∙ ap (λ (x : Value). Some x) (same_ok (kept_in row cell.field) v (sym value ∙ is))

module _ (models : List ModelInfo) (tables : Tables) (registry : IsRegistry models) (cell : Cell) (info : FieldInfo) (at : field_at models cell.model cell.field ≡ Some info) (plain : is_plain_kept info ≡ true)
    (there : IsSome (kept_at tables cell)) where
  -- a value that was settled is the one that is kept
  pub settled-kept : (v : Value) → IsSettledAt models tables cell (Some v) → kept_at tables cell ≡ Some v
  settled-kept v is = by (row_at tables cell.model cell.id) refl there
    where
      here : (row : PlainRow) → row_at tables cell.model cell.id ≡ Some row → (o : Option Value) → finite.get row cell.field.0 ≡ o → IsSome o → finite.get row cell.field.0 ≡ Some v
      here row at_row None none has = contrary has
      here row at_row (Some w) got has =
          let value : val models tables cell ≡ Ok w = settled-value models tables registry cell info at plain row at_row ∙ ap (λ (x : Option Value). value_at cell (Some (unwrap_or x value.Nil))) got in
          got ∙ ap (λ (x : Value). Some x) (same_ok w v (sym value ∙ is))

      by : (o : Option PlainRow) → row_at tables cell.model cell.id ≡ o → IsSome (option_and_then (λ row. finite.get row cell.field.0) o) → kept_at tables cell ≡ Some v
      by None none has = contrary has
      by (Some row) at_row has = ap (option_and_then (λ (r : PlainRow). finite.get r cell.field.0)) at_row ∙ here row at_row (finite.get row cell.field.0) refl has

  -- and there is one
  pub settled-there : IsSettledAt models tables cell None → ⊥
  settled-there none = by (row_at tables cell.model cell.id) none there
    where
      by : (o : Option PlainRow) → o ≡ None → IsSome (option_and_then (λ row. finite.get row cell.field.0) o) → ⊥
      by None is has = contrary has
      by (Some row) is has = some_none row is
