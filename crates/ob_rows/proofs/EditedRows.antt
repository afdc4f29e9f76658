-- What one edit makes of the rows of tables, and edits one behind another.
use Rattle.std.proofs.Common.{◌≡◌, ◌⊎◌, inl, inr, Bool, true, false, cond, List, [], ◌∷◌, ◌++◌, Option, Some, None, option_map, refl, sym, ap, ◌∙◌}
use Rattle.std.specs.Prelude.{IsSome, is_some, option_and_then}
use Rattle.std.specs.Option.{option_map_or}
use Rattle.std.specs.Ordering.{eq_by_cmp, is_eq}
use Rattle.std.specs.Cmp.{tied_itself}
use Rattle.std.specs.FinMap as finite
use Rattle.std.proofs.lemmas.Map.Views.{tells_apart}
use Rattle.ob_base.specs.Ids.{row_key_cmp}
use Rattle.ob_base.specs.declared.id.Cell.{Cell}
use Rattle.ob_base.specs.declared.id.RowKey.{RowKey}
use Rattle.ob_base.specs.declared.value.Value.{Value}
use Rattle.ob_rows.proofs.Contained.{both_ways, fails}
use Rattle.ob_schema.specs.Tables.{PlainRow, Tables, key_of, kept_at, row_at}
use Rattle.ob_schema.specs.declared.info.ModelInfo.{ModelInfo}
use Rattle.ob_tables.proofs.CallerLemmas.{exact_rows, rows_total}
use Rattle.ob_tables.specs.After.{after, edited}
use Rattle.ob_tables.specs.Changes.{has_row}
use Rattle.ob_tables.specs.declared.edit.Edit.{Edit}
use Rattle.ob_tables.specs.declared.edit.Edit.TheVariants as edit

-- ---- one edit

-- rows are one or two
pub same_row : (a b : RowKey) → (a ≡ b) ⊎ (a ≡ b → ⊥)
same_row a b = by (eq_by_cmp row_key_cmp a b) refl
  where
    by : (t : Bool) → eq_by_cmp row_key_cmp a b ≡ t → (a ≡ b) ⊎ (a ≡ b → ⊥)
    by true e = inl (tells_apart exact_rows a b e)
    by false e = inr (λ same. both_ways (eq_by_cmp row_key_cmp a b) (ap (λ (c : RowKey). eq_by_cmp row_key_cmp a c) (sym same) ∙ ap is_eq (tied_itself rows_total a)) e)

pub row-apart : (q key : RowKey) → (q ≡ key → ⊥) → eq_by_cmp row_key_cmp q key ≡ false
row-apart q key not = fails (eq_by_cmp row_key_cmp q key) (λ e. not (tells_apart exact_rows q key e))

pub row-itself : (key : RowKey) → eq_by_cmp row_key_cmp key key ≡ true
row-itself key = ap is_eq (tied_itself rows_total key)

module _ (models : List ModelInfo) (tables : Tables) where
  module _ (cell : Cell) (v : Value) where
    abbrev pub key : RowKey
    key = key_of cell.model cell.id

    abbrev pub new_row : PlainRow → PlainRow
    new_row row = finite.insert row cell.field.0 v

    abbrev pub set : Tables
    set = edited models tables (edit.Set cell v)

    abbrev by_row : Option PlainRow → Tables
    by_row o = option_map_or (λ row. record tables { rows = finite.insert tables.rows key (new_row row) }) o tables

    -- a row of another key stays
    pub set-other : (q : RowKey) → (q ≡ key → ⊥) → finite.get set.rows q ≡ finite.get tables.rows q
    set-other q not = by (row_at tables cell.model cell.id)
      where
        by : (o : Option PlainRow) → finite.get (by_row o).rows q ≡ finite.get tables.rows q
        by None = refl
        by (Some row) = finite.get-insert rows_total tables.rows key (new_row row) q ∙ ap (λ (b : Bool). cond b (Some (new_row row)) (finite.get tables.rows q)) (row-apart q key not)

    -- the cell's own has the value
    pub set-own : finite.get set.rows key ≡ option_map new_row (finite.get tables.rows key)
    set-own = by (row_at tables cell.model cell.id) refl
      where
        by : (o : Option PlainRow) → row_at tables cell.model cell.id ≡ o → finite.get (by_row (row_at tables cell.model cell.id)).rows key ≡ option_map new_row (row_at tables cell.model cell.id)
        by None none = ap (λ (o : Option PlainRow). finite.get (by_row o).rows key) none ∙ none ∙ sym (ap (option_map new_row) none)
        by (Some row) there =
            ap (λ (o : Option PlainRow). finite.get (by_row o).rows key) there
            ∙ finite.get-insert rows_total tables.rows key (new_row row) key ∙ ap (λ (b : Bool). cond b (Some (new_row row)) (finite.get tables.rows key)) (row-itself key)
            ∙ sym (ap (option_map new_row) there)

    -- no row comes or goes
    pub set-there : (q : RowKey) → has_row set q ≡ has_row tables q
    set-there q = elim (same_row q key) [
      | inl same ↦ ap (λ (r : RowKey). is_some (finite.get set.rows r)) same ∙ ap is_some set-own ∙ mapped (finite.get tables.rows key) ∙ ap (λ (r : RowKey). is_some (finite.get tables.rows r)) (sym same)
      | inr not ↦ ap is_some (set-other q not)
    ]
      where
        mapped : (o : Option PlainRow) → is_some (option_map new_row o) ≡ is_some o
        mapped None = refl
        mapped (Some row) = refl

    -- and no next id changes
    pub set-next : set.next_ids ≡ tables.next_ids
    set-next = by (row_at tables cell.model cell.id)
      where
        by : (o : Option PlainRow) → (by_row o).next_ids ≡ tables.next_ids
        by None = refl
        by (Some row) = refl

-- ---- edits one after another

module _ (models : List ModelInfo) where
  pub after-then : (tables : Tables) (first second : List Edit) → after models tables (first ++ second) ≡ after models (after models tables first) second
  after-then tables [] second = refl
  after-then tables (one ∷ first) second = after-then (edited models tables one) first second

-- ---- rows and cells

-- a row with a cell is there
pub row-of-kept : (tables : Tables) (cell : Cell) (v : Value) → kept_at tables cell ≡ Some v → IsSome (row_at tables cell.model cell.id)
row-of-kept tables cell v is = by (row_at tables cell.model cell.id) is
  where
    by : (o : Option PlainRow) → option_and_then (λ row. finite.get row cell.field.0) o ≡ Some v → IsSome o
    by None is = absurd cc
    by (Some row) is = refl
