-- Rows that a change doesn't touch and none of whose cells it marks are kept in the same form.
use Rattle.std.proofs.Common.{◌≡◌, inl, inr, Bool, true, false, List, Option, Some, None, Result, refl, sym, ap, subst, ◌∙◌}
use Rattle.std.specs.Prelude.{Contains}
use Rattle.std.specs.Result.{result_unwrap_or}
use Rattle.ob_base.specs.declared.id.Cell.{Cell}
use Rattle.ob_base.specs.declared.id.ModelNo.{ModelNo}
use Rattle.ob_base.specs.declared.id.RecId.{RecId}
use Rattle.ob_base.specs.declared.id.RowKey.{RowKey}
use Rattle.ob_base.specs.declared.value.Value.{Value}
use Rattle.ob_base.specs.declared.value.Value.TheVariants as value
use Rattle.ob_cache.specs.Behind.{AreMarked}
use Rattle.ob_cache.specs.Changing.{KeepsOthers, form_of}
use Rattle.ob_cache.specs.Kept.{kept_columns, kept_row, kept_value, links_of}
use Rattle.ob_cache.proofs.Gathering.{form-absent, form-at, form-none}
use Rattle.ob_cache.proofs.KeptForms.{IsColumn, columns-at, values-agree}
use Rattle.ob_cache.proofs.SoundForms.{computed-from, field-of, val-plain}
use Rattle.ob_codec.specs.RowForm.{row_form}
use Rattle.ob_expr.specs.Computing.{Lack}
use Rattle.ob_schema.specs.Broken.{AreSound}
use Rattle.ob_schema.specs.Fields.{Column, is_kept, is_plain_kept, kept_fields}
use Rattle.ob_schema.specs.Links.{Sides}
use Rattle.ob_schema.specs.Models.{IsRegistry, field_at, model_at}
use Rattle.ob_schema.specs.Tables.{PlainRow, Standing, Tables, key_of, row_at}
use Rattle.ob_schema.specs.Val.{val}
use Rattle.ob_schema.specs.declared.info.ModelInfo.{ModelInfo}
use Rattle.ob_sound.specs.Touched.{TouchesOnly}
use Rattle.ob_tables.proofs.CallerLemmas.{tell_and, there_is}
use Rattle.ob_trigger.specs.Affected.{Changed, IsComputedBehind, IsComputedField}

module _ (models : List ModelInfo) (sides : Sides) (registry : IsRegistry models) (before : AreSound models sides.before) (behind : AreSound models sides.behind)
    (keeps : (cell : Cell) → IsComputedBehind models sides cell → (Changed models sides cell → ⊥) → val models sides.before cell ≡ val models sides.behind cell)
    (marked : List Cell) (are : AreMarked models sides marked) where
  -- a row that is the same on both sides, and none of whose cells is marked
  module _ (model : ModelNo) (id : RecId) (info : ModelInfo) (info_is : model_at models model ≡ Some info) (row : PlainRow) (row_before : row_at sides.before model id ≡ Some row)
      (row_behind : row_at sides.behind model id ≡ Some row) (unmarked : (cell : Cell) → Contains marked cell → key_of cell.model cell.id ≡ key_of model id → ⊥) where
    abbrev column_cell : Column → Cell
    column_cell c = record { model = model; id = id; field = record { 0 = c.0 } }

    -- each of its kept fields has the same value
    same-value : (c : Column) → IsColumn is_kept info.fields c → kept_value models sides.before model id c ≡ kept_value models sides.behind model id c
    same-value c is = ap (λ (r : Result Value Lack). result_unwrap_or r value.Nil) (by (is_plain_kept c.1) refl)
      where
        by : (b : Bool) → is_plain_kept c.1 ≡ b → val models sides.before (column_cell c) ≡ val models sides.behind (column_cell c)
        by true plain =
            val-plain models sides.before registry before model id info row info_is row_before c.0 c.1 is.at plain
            ∙ sym (val-plain models sides.behind registry behind model id info row info_is row_behind c.0 c.1 is.at plain)
        by false plain =
            let at = field-of models model info c.0 c.1 info_is is.at in
            let computed : IsComputedBehind models sides (column_cell c) =
            (there_is (row_at sides.behind model id) row row_behind, tell_and (field_at models model (record { 0 = c.0 })) c.1 IsComputedField at (computed-from c.1.origin c.1 is.passes plain)) in
            keeps (column_cell c) computed (λ changed. unmarked (column_cell c) (are.changed (column_cell c) changed) refl)

    same-form : kept_row models sides.before model info id row ≡ kept_row models sides.behind model info id row
    same-form = ap (λ (values : List Value). record { id = id; body = row_form (kept_fields info) values; links = links_of info row })
        (values-agree (IsColumn is_kept info.fields) (kept_value models sides.before model id) (kept_value models sides.behind model id) same-value (kept_columns info) (columns-at is_kept info))

  module _ (touched : List RowKey) (touches : TouchesOnly touched sides) (rows : List RowKey) (each_touched : (key : RowKey) → Contains touched key → Contains rows key)
      (each_marked : (cell : Cell) → Contains marked cell → Contains rows (key_of cell.model cell.id)) where
    abbrev on : Tables → Standing
    on tables = record { models = models; tables = tables }

    -- the kept form of a row that isn't among them
    kept-form : (key : RowKey) → (Contains rows key → ⊥) → form_of (on sides.before) key ≡ form_of (on sides.behind) key
    kept-form key not = by (model_at models key.model) refl (row_at sides.before key.model key.id) refl
      where
        same : row_at sides.before key.model key.id ≡ row_at sides.behind key.model key.id
        same = elim (touches key.model key.id) [
          | inl is ↦ is
          | inr one ↦ absurd (not (each_touched key one))
        ]

        by : (m : Option ModelInfo) → model_at models key.model ≡ m → (r : Option PlainRow) → row_at sides.before key.model key.id ≡ r → form_of (on sides.before) key ≡ form_of (on sides.behind) key
        by None none r is = form-absent (on sides.before) key none ∙ sym (form-absent (on sides.behind) key none)
        by (Some info) info_is None is = form-none (on sides.before) key is ∙ sym (form-none (on sides.behind) key (sym same ∙ is))
        by (Some info) info_is (Some row) is =
            form-at (on sides.before) key info info_is (Some row) is
            ∙ ap Some (same-form key.model key.id info info_is row is (sym same ∙ is) (λ cell one at. not (subst (Contains rows) at (each_marked cell one))))
            ∙ sym (form-at (on sides.behind) key info info_is (Some row) (sym same ∙ is))

    -- so it is between tables over these models
    pub forms-last : (old new : Standing) → old ≡ on sides.before → new ≡ on sides.behind → KeepsOthers old new rows
    forms-last old new old_is new_is key not = ap (λ (s : Standing). form_of s key) old_is ∙ kept-form key not ∙ sym (ap (λ (s : Standing). form_of s key) new_is)
