-- Rows that are gathered one after another, each once: each that was met is listed.
use Rattle.std.proofs.Common.{◌≡◌, ◌+◌, ◌++◌, ◌<◌, inl, inr, ℕ, Bool, true, false, cond, not, List, [], ◌∷◌, get_or, length, take, refl, sym, subst, ◌∙◌}
use Rattle.std.specs.Prelude.{Contains}
use Rattle.std.specs.Ordering.{is_eq}
use Rattle.std.specs.BTreeSet as sorted
use Rattle.std.proofs.lemmas.List.{get_or_default}
use Rattle.std.proofs.lemmas.List.Elements.{Contains-append_left, Contains-push}
use Rattle.std.proofs.lemmas.Map.Views.{btree_set_contains_iff, tells_apart}
use Rattle.ob_base.specs.Ids.{row_key_cmp}
use Rattle.ob_base.specs.declared.id.RowKey.{RowKey}
use Rattle.ob_cache.specs.Changing.{KeepsOthers}
use Rattle.ob_cache.proofs.MarkedValues.{one-more}
use Rattle.ob_schema.specs.Links.{Sides}
use Rattle.ob_schema.specs.Tables.{Standing, key_of}
use Rattle.ob_sound.specs.Touched.{TouchesOnly}
use Rattle.ob_tables.proofs.CallerLemmas.{exact_rows, rows_total}

-- each of some rows is listed
abbrev pub AreListed : List RowKey → List RowKey → Type 0
AreListed rows listed = (row : RowKey) → Contains rows row → Contains listed row

-- ---- one row more

module _ (old new : sorted.BTreeSet RowKey) (row : RowKey) where
  -- one that isn't new was met
  pub was-met : (added : Bool) → added ≡ not (sorted.contains row_key_cmp old row) → added ≡ false → Contains old.keys row
  was-met added is none = (btree_set_contains_iff rows_total exact_rows old row).0 (by (sorted.contains row_key_cmp old row) (sym is ∙ none))
    where
      by : (b : Bool) → not b ≡ false → b ≡ true
      by true untrue = refl
      by false untrue = absurd cc

  -- where it is listed now, and those of before still are, all are
  pub listed-more : ((q : RowKey) → sorted.contains row_key_cmp new q ≡ cond (is_eq (row_key_cmp row q)) true (sorted.contains row_key_cmp old q)) → (once now : List RowKey)
      → AreListed old.keys once → AreListed once now → Contains now row → AreListed new.keys now
  listed-more updates once now listed kept this other was = by (is_eq (row_key_cmp row other)) refl (sym (updates other) ∙ (btree_set_contains_iff rows_total exact_rows new other).1 was)
    where
      by : (b : Bool) → is_eq (row_key_cmp row other) ≡ b → cond b true (sorted.contains row_key_cmp old other) ≡ true → Contains now other
      by true same _ = subst (Contains now) (tells_apart exact_rows row other same) this
      by false _ before = kept other (listed other ((btree_set_contains_iff rows_total exact_rows old other).0 before))

-- a row behind the others
module _ (once now : List RowKey) (row : RowKey) (is : now ≡ once ++ row ∷ []) where
  pub pushed-kept : AreListed once now
  pushed-kept other one = subst (λ (l : List RowKey). Contains l other) (sym is) (Contains-append_left once (row ∷ []) other one)

  pub pushed-this : Contains now row
  pushed-this = subst (λ (l : List RowKey). Contains l row) (sym is) (Contains-push once row)

-- ---- over a list

-- the next row
pub next-row : (rows : List RowKey) (i : ℕ) (none : RowKey) (once now : List RowKey) → i < length rows → AreListed (take i rows) once → AreListed once now → Contains now (get_or rows i none) → AreListed (take (i + 1) rows) now
next-row rows i none once now low listed kept this other one = elim (one-more rows i (get_or rows i none) low (get_or_default rows i none (get_or rows i none) low) other one) [
  | inl earlier ↦ kept other (listed other earlier)
  | inr same ↦ subst (Contains now) same this
]

-- ---- what more rows say

-- rows that aren't among more are kept in the same form
pub others-among : (old new : Standing) (keys rows : List RowKey) → KeepsOthers old new keys → AreListed keys rows → KeepsOthers old new rows
others-among old new keys rows others listed key not = others key (λ one. not (listed key one))

-- all rows but more are on both sides what they were
pub touches-among : (keys rows : List RowKey) (sides : Sides) → TouchesOnly keys sides → AreListed keys rows → TouchesOnly rows sides
touches-among keys rows sides touches listed model id = elim (touches model id) [ inl same ↦ inl same | inr one ↦ inr (listed (key_of model id) one) ]
