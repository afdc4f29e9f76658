-- What a page of a store promises of its ids and rows.
use Rattle.std.proofs.Common.{◌≡◌, ℕ, zero, suc, List, [], ◌∷◌, filter, take, All, sym, ap, subst, ◌∙◌, arith}
use Rattle.std.specs.List.{AllByRecursion}
use Rattle.std.specs.List.Sorted.{IsStrictlySortedBy}
use Rattle.std.specs.declared.cmp.Ordering.{Ordering}
use Rattle.std.specs.declared.cmp.Ordering.TheVariants.{Less}
use Rattle.std.proofs.lemmas.List.{take-map, length-take}
use Rattle.std.proofs.lemmas.List.Elements.{All-from_recursion, All-take, All-map, All-filter}
use Rattle.std.proofs.lemmas.List.Kept.{IsStrictlySortedBy-filter}
use Rattle.std.specs.FinMap as finite
use Rattle.ob_base.specs.declared.id.ModelNo.{ModelNo}
use Rattle.ob_base.specs.declared.id.FieldNo.{FieldNo}
use Rattle.ob_base.specs.declared.id.RecId.{RecId}
use Rattle.ob_base.specs.Rising.{IsRising}
use Rattle.ob_io.specs.declared.store.KeptRow.{KeptRow}
use Rattle.ob_base.specs.Ids.{row_key_cmp}
use Rattle.ob_io.specs.Store.{Store, rows_after, holders_after, has_link, IsAnswerOf, IsPage}
use Rattle.ob_io.specs.Kept.{IsStoreFit}
use Rattle.ob_io.proofs.SortedEntries.{keys-from_is_sorted}
use Rattle.ob_io.proofs.Held.{ids_of}
use Rattle.ob_io.proofs.RisingIds.{id_cmp, sorted-map, rising-from_sorted}
use Rattle.ob_io.proofs.Paged.{IsAbove, row_cmp, entries_fit, all_above, all_answers, rising}

module _ {X : Type 0} where
  all-take : (P : X → Type 0) (n : ℕ) (xs : List X) → AllByRecursion P xs → AllByRecursion P (take n xs)
  all-take P zero xs h = tt
  all-take P (suc n) [] h = tt
  all-take P (suc n) (x ∷ xs) h = (h.0, all-take P n xs h.1)

  sorted-take : (c : X → X → Ordering) (n : ℕ) (xs : List X) → IsStrictlySortedBy c xs → IsStrictlySortedBy c (take n xs)
  unfolding IsStrictlySortedBy
  sorted-take c zero xs h = tt
  sorted-take c (suc n) [] h = tt
  sorted-take c (suc n) (x ∷ xs) h = (all-take (λ y. c x y ≡ Less) n xs h.0, sorted-take c n xs h.1)

-- the first of rows that rise above an id are a page
IsPage-take : (after : RecId) (most : ℕ) (rows : List KeptRow) → All (λ row. IsAbove after row.id) rows → IsStrictlySortedBy row_cmp rows → IsPage after most (take most (ids_of rows))
IsPage-take after most rows above up = record {
  few = omega (arith, length-take most (ids_of rows));
  above = All-take (IsAbove after) most (ids_of rows) (All-map (IsAbove after) (λ row. row.id) rows above);
  rising = rising-from_sorted (take most (ids_of rows)) (sorted-take id_cmp most (ids_of rows) (sorted-map (λ row. row.id) id_cmp rows up));
}

module _ (store : Store) (fit : IsStoreFit store) (model : ModelNo) (after : RecId) where
  abbrev rows : List KeptRow
  rows = rows_after store model after

  up : IsStrictlySortedBy row_cmp rows
  up = rising model after (finite.entries store.rows) (entries_fit store fit) (keys-from_is_sorted row_key_cmp (finite.entries store.rows) (finite.entries_sorted store.rows))

  above : All (λ row. IsAbove after row.id) rows
  above = All-from_recursion (λ row. IsAbove after row.id) rows (all_above model after (finite.entries store.rows) (entries_fit store fit))

  -- the ids of the rows after an id rise
  pub rising_ids : IsRising (ids_of rows)
  rising_ids = rising-from_sorted (ids_of rows) (sorted-map (λ row. row.id) id_cmp rows up)

  pub page_fits : (most : ℕ) (page : List KeptRow) → page ≡ take most rows → IsPage after most (ids_of page) × All (λ row. IsAnswerOf row.id row) page
  page_fits most page is = (
    subst (IsPage after most) (take-map (λ row. row.id) most rows ∙ sym (ap ids_of is)) (IsPage-take after most rows above up),
    subst (All (λ row. IsAnswerOf row.id row)) (sym is) (All-take (λ row. IsAnswerOf row.id row) most rows
        (All-from_recursion (λ row. IsAnswerOf row.id row) rows (all_answers model after (finite.entries store.rows) (entries_fit store fit)))),
  )

  pub holders_fit : (field : FieldNo) (target : RecId) (most : ℕ) (ids : List RecId) → ids ≡ take most (holders_after store model field target after) → IsPage after most ids
  holders_fit field target most ids is =
      let p = has_link field target in
      subst (IsPage after most) (sym is) (IsPage-take after most (filter p rows) (All-filter p (λ row. IsAbove after row.id) rows above) (IsStrictlySortedBy-filter row_cmp p rows up))
