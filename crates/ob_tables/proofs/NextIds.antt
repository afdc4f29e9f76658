-- Edits never lower a next id, and raise it no further than above the ids of the rows that they make.
use Rattle.std.proofs.Common.{◌≡◌, ◌<◌, ◌≤◌, ◌+◌, ℕ, Bool, true, false, cond, List, [], ◌∷◌, max, Option, Some, None, unwrap_or, refl, sym, ap, subst, ◌∙◌, arith}
use Rattle.std.specs.List.{All}
use Rattle.std.specs.Option.{option_map_or}
use Rattle.std.specs.Ordering.{nat_cmp, eq_by_cmp}
use Rattle.std.specs.Cmp.{nat_cmp_total}
use Rattle.std.specs.FinMap as finite
use Rattle.std.proofs.lemmas.List.Elements.{All-head, All-tail}
use Rattle.std.proofs.lemmas.Map.Lookups.{exact_unsigned}
use Rattle.std.proofs.lemmas.Map.Views.{tells_apart}
use Rattle.ob_base.specs.declared.id.ModelNo.{ModelNo}
use Rattle.ob_base.specs.declared.id.RecId.{RecId}
use Rattle.ob_schema.specs.Models.{model_at}
use Rattle.ob_schema.specs.Tables.{PlainRow, Tables, key_of, next_of, row_at}
use Rattle.ob_schema.specs.declared.info.ModelInfo.{ModelInfo}
use Rattle.ob_tables.specs.After.{after, edited, row_of, with_row}
use Rattle.ob_tables.specs.Changes.{MakesBelow}
use Rattle.ob_tables.specs.declared.edit.Edit.{Edit}
use Rattle.ob_tables.specs.declared.edit.Edit.TheVariants as edit

-- the same number is the same model
same_model : (a b : ModelNo) → eq_by_cmp nat_cmp a.0 b.0 ≡ true → a ≡ b
same_model a b same = ap (λ (n : ℕ). record { 0 = n }) (tells_apart exact_unsigned a.0 b.0 same)

not_less : (n : ℕ) → n ≤ n
not_less n = omega arith

one_of : (b : Bool) (n : ℕ) (old : Option ℕ) → unwrap_or (cond b (Some n) old) 1 ≡ cond b n (unwrap_or old 1)
one_of true n old = refl
one_of false n old = refl

raised : (own theirs low : ℕ) (b : Bool) → (b ≡ true → own ≡ theirs) → own ≤ cond b (max theirs (low + 1)) own
raised own theirs low true same = let e : own ≡ theirs = same refl in omega arith
raised own theirs low false same = not_less own

bounded : (own theirs low bound : ℕ) (b : Bool) → (b ≡ true → own ≡ theirs) → (b ≡ true → low < bound) → own ≤ bound → cond b (max theirs (low + 1)) own ≤ bound
bounded own theirs low bound true same below within = let e : own ≡ theirs = same refl in let l : low < bound = below refl in omega arith
bounded own theirs low bound false same below within = within

module _ (models : List ModelInfo) (tables : Tables) (model : ModelNo) where
  -- the next id once a row is made
  made : (other : ModelNo) (id : RecId) (row : PlainRow)
      → next_of (with_row models other id row tables) model ≡ cond (eq_by_cmp nat_cmp model.0 other.0) (max (next_of tables other) (id.0 + 1)) (next_of tables model)
  made other id row =
      ap (λ (o : Option ℕ). unwrap_or o 1) (finite.get-insert nat_cmp_total tables.next_ids other.0 (max (next_of tables other) (id.0 + 1)) model.0)
      ∙ one_of (eq_by_cmp nat_cmp model.0 other.0) (max (next_of tables other) (id.0 + 1)) (finite.get tables.next_ids model.0)

  its_own : (other : ModelNo) → eq_by_cmp nat_cmp model.0 other.0 ≡ true → next_of tables model ≡ next_of tables other
  its_own other same = ap (λ (m : ModelNo). next_of tables m) (same_model model other same)

  -- one edit
  rises-once : (one : Edit) → next_of tables model ≤ next_of (edited models tables one) model
  rises-once (edit.Make other id values) = by (model_at models other)
    where
      by : (info : Option ModelInfo) → next_of tables model ≤ next_of (option_map_or (λ info. with_row models other id (row_of info values) tables) info tables) model
      by None = not_less (next_of tables model)
      by (Some info) =
          subst (λ n. next_of tables model ≤ n) (sym (made other id (row_of info values)))
          (raised (next_of tables model) (next_of tables other) id.0 (eq_by_cmp nat_cmp model.0 other.0) (its_own other))
  rises-once (edit.Set cell v) = by (row_at tables cell.model cell.id)
    where
      by : (row : Option PlainRow)
          → next_of tables model ≤ next_of (option_map_or (λ row. record tables { rows = finite.insert tables.rows (key_of cell.model cell.id) (finite.insert row cell.field.0 v) }) row tables) model
      by None = not_less (next_of tables model)
      by (Some row) = not_less (next_of tables model)
  rises-once (edit.Gone other id) = not_less (next_of tables model)

  bound-once : (bound : ℕ) (one : Edit) → MakesBelow model bound one → next_of tables model ≤ bound → next_of (edited models tables one) model ≤ bound
  bound-once bound (edit.Make other id values) below within = by (model_at models other)
    where
      by : (info : Option ModelInfo) → next_of (option_map_or (λ info. with_row models other id (row_of info values) tables) info tables) model ≤ bound
      by None = within
      by (Some info) =
          subst (λ n. n ≤ bound) (sym (made other id (row_of info values)))
          (bounded (next_of tables model) (next_of tables other) id.0 bound (eq_by_cmp nat_cmp model.0 other.0) (its_own other) (λ same. below (sym (same_model model other same))) within)
  bound-once bound (edit.Set cell v) below within = by (row_at tables cell.model cell.id)
    where
      by : (row : Option PlainRow)
          → next_of (option_map_or (λ row. record tables { rows = finite.insert tables.rows (key_of cell.model cell.id) (finite.insert row cell.field.0 v) }) row tables) model ≤ bound
      by None = within
      by (Some row) = within
  bound-once bound (edit.Gone other id) below within = within

not_lower : (a b c : ℕ) → a ≤ b → b ≤ c → a ≤ c
not_lower a b c p q = omega arith

-- edits never lower a next id
pub next-rises : (models : List ModelInfo) (tables : Tables) (edits : List Edit) (model : ModelNo) → next_of tables model ≤ next_of (after models tables edits) model
next-rises models tables [] model = not_less (next_of tables model)
next-rises models tables (one ∷ edits) model =
    not_lower (next_of tables model) (next_of (edited models tables one) model) (next_of (after models (edited models tables one) edits) model)
    (rises-once models tables model one) (next-rises models (edited models tables one) edits model)

-- and keep it within a bound above the ids of the rows that they make
pub next-bound : (models : List ModelInfo) (tables : Tables) (edits : List Edit) (model : ModelNo) (bound : ℕ)
    → All (MakesBelow model bound) edits → next_of tables model ≤ bound → next_of (after models tables edits) model ≤ bound
next-bound models tables [] model bound below within = within
next-bound models tables (one ∷ edits) model bound below within =
    next-bound models (edited models tables one) edits model bound (All-tail (MakesBelow model bound) one edits below)
    (bound-once models tables model bound one (All-head (MakesBelow model bound) one edits below) within)
