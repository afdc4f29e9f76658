-- Sets of rows: what they have, and with one row more.
use Rattle.std.proofs.Common.{◌≡◌, ◌⊎◌, ◌↔◌, inl, inr, Bool, true, false, cond, List, [], refl, sym, ap, ◌∙◌}
use Rattle.std.specs.Prelude.{Contains}
use Rattle.std.specs.Ordering.{is_eq}
use Rattle.std.specs.declared.cmp.Ordering.{Ordering}
use Rattle.std.specs.BTreeSet as sorted
use Rattle.std.specs.Cmp.{IsTotalOrder, tied_itself}
use Rattle.std.proofs.lemmas.Map.Lookups.{CmpEqualImpliesEq}
use Rattle.std.proofs.lemmas.Map.Views.{btree_set_contains_iff, tells_apart}
use Rattle.ob_base.specs.Ids.{row_key_cmp}
use Rattle.ob_base.specs.declared.id.RowKey.{RowKey}
use Rattle.ob_rows.proofs.Contained.{both_ways}
use Rattle.ob_rows.specs.RowSets.{has_key}
use Rattle.ob_tables.proofs.CallerLemmas.{exact_rows, rows_total}

-- what a set has is among its keys
pub row-among : (rows : sorted.BTreeSet RowKey) (row : RowKey) → (has_key rows row ≡ true) ↔ Contains rows.keys row
row-among rows row = btree_set_contains_iff rows_total exact_rows rows row

-- an empty set has nothing
pub no_row : (rows : sorted.BTreeSet RowKey) (row : RowKey) → rows.keys ≡ [] → has_key rows row ≡ true → ⊥
no_row rows row empty is =
    let none : has_key rows row ≡ false = ap (λ (l : List RowKey). sorted.contains row_key_cmp (record { keys = l }) row) empty in
    both_ways (has_key rows row) is none

-- one key more
module _ {K : Type 0} (cmp : K → K → Ordering) (total : IsTotalOrder cmp) (exact : CmpEqualImpliesEq cmp) (old new : sorted.BTreeSet K) (key : K)
    (updates : (other : K) → sorted.contains cmp new other ≡ cond (is_eq (cmp key other)) true (sorted.contains cmp old other)) where
  pub has-one : (other : K) → (sorted.contains cmp new other ≡ true) ↔ ((sorted.contains cmp old other ≡ true) ⊎ (other ≡ key))
  has-one other = by (is_eq (cmp key other)) refl (updates other)
    where
      by : (b : Bool) → is_eq (cmp key other) ≡ b → sorted.contains cmp new other ≡ cond b true (sorted.contains cmp old other)
          → (sorted.contains cmp new other ≡ true) ↔ ((sorted.contains cmp old other ≡ true) ⊎ (other ≡ key))
      by true same is = (λ has. inr (sym (tells_apart exact key other same)), λ either. is)
      by false apart is = (λ has. inl (sym is ∙ has), λ either. kept either)
        where
          kept : (sorted.contains cmp old other ≡ true) ⊎ (other ≡ key) → sorted.contains cmp new other ≡ true
          kept (inl had) = is ∙ had
          kept (inr equal) = both_ways (is_eq (cmp key other)) (ap (λ (c : K). is_eq (cmp key c)) equal ∙ ap is_eq (tied_itself total key)) apart

pub row-one : (old new : sorted.BTreeSet RowKey) (row : RowKey) → ((other : RowKey) → has_key new other ≡ cond (is_eq (row_key_cmp row other)) true (has_key old other))
    → (other : RowKey) → (has_key new other ≡ true) ↔ ((has_key old other ≡ true) ⊎ (other ≡ row))
row-one old new row updates = has-one row_key_cmp rows_total exact_rows old new row updates
