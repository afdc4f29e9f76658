-- The rows of a model are those between its first key and its next id.
use Rattle.std.proofs.Common.{◌≡◌, ◌<◌, ◌≤◌, ◌==◌, ℕ, Bool, true, false, not, ◌&&◌, cond, T, Option, Some, IsSome, is_some, List, [], ◌∷◌, map, filter, refl, sym, ap, subst, ◌∙◌, arith}
use Rattle.std.specs.declared.cmp.Ordering.{Ordering}
use Rattle.std.specs.declared.cmp.Ordering.TheVariants.{Less, Equal, Greater}
use Rattle.std.specs.declared.ops.Bound.TheVariants.{Included, Excluded}
use Rattle.std.specs.Ordering.{nat_cmp, is_eq, is_lt, is_le, ordering_then}
use Rattle.std.proofs.lemmas.Cmp.{ranked}
use Rattle.std.proofs.lemmas.Bool.Decides.{nat_tests}
use Rattle.std.specs.Cmp.{tied_itself}
use Rattle.std.specs.List.{AllByRecursion}
use Rattle.std.specs.List.Sorted.{IsStrictlySortedBy}
use Rattle.std.proofs.lemmas.Map.Keys.{sorted_head, sorted_tail}
use Rattle.std.specs.FinMap as finite
use Rattle.std.specs.FinMap.Entries.{below_all, is_sorted}
use Rattle.std.specs.Map.{keys_of, lookup}
use Rattle.std.specs.BTreeMap as tree
use Rattle.std.specs.BTreeMap.{BTreeMap, is_at}
use Rattle.std.specs.BTreeMap.Range.{range_contains}
use Rattle.ob_base.specs.declared.id.ModelNo.{ModelNo}
use Rattle.ob_base.specs.declared.id.RecId.{RecId}
use Rattle.ob_base.specs.declared.value.Value.{Value}
use Rattle.ob_base.specs.declared.id.RowKey.{RowKey}
use Rattle.ob_base.specs.Ids.{row_key_cmp}
use Rattle.ob_tables.specs.Rooms.{shown_row, shown_rows}
use Rattle.ob_schema.specs.Tables.{PlainRow, key_of}
use Rattle.ob_tables.proofs.Shown.{rows_total, exact_rows, keys-changed, has-shown_rows}

at_most : (a b : ℕ) → a ≤ b → is_le (nat_cmp a b) ≡ true
at_most a b h = grind (arith, nat_tests)

not_at_most : (a b : ℕ) → b < a → is_le (nat_cmp a b) ≡ false
not_at_most a b h = grind (arith, nat_tests)

differ : (k m : ℕ) → (k ≡ m → ⊥) → (k == m) ≡ false
differ k m h = grind (arith, nat_tests)

tied : (k m : ℕ) → m ≡ k → (k == m) ≡ true
tied k m h = grind (arith, nat_tests)

-- by which order the models have
by_models : (m k i n : ℕ) (r : Ordering) → r ≡ nat_cmp m k → (k ≡ m → i < n) → (is_le (ordering_then r (nat_cmp 0 i)) && not (is_le (ordering_then r (nat_cmp n i)))) ≡ (k == m)
by_models m k i n Less e h = sym (differ k m (apart (ranked m k Less e)))
  where
    apart : m < k → k ≡ m → ⊥
    apart lt is = omega arith
by_models m k i n Equal e h =
    ap (λ b. b && not (is_le (nat_cmp n i))) (at_most 0 i (omega arith)) ∙ ap not (not_at_most n i (h (sym (ranked m k Equal e)))) ∙ sym (tied k m (ranked m k Equal e))
by_models m k i n Greater e h = sym (differ k m (apart (ranked m k Greater e)))
  where
    apart : k < m → k ≡ m → ⊥
    apart lt is = omega arith

-- a key of the model has an id below the next one
abbrev pub IsBelow : ModelNo → ℕ → RowKey → Type 0
IsBelow model n key = key.model.0 ≡ model.0 → key.id.0 < n

module _ (model : ModelNo) (n : ℕ) where
  abbrev is_between : RowKey → Bool
  is_between key = range_contains row_key_cmp (Included (key_of model (record { 0 = 0 }))) (Excluded (key_of model (record { 0 = n }))) key

  between : (key : RowKey) → IsBelow model n key → is_between key ≡ (key.model.0 == model.0)
  between key h = by_models model.0 key.model.0 key.id.0 n (nat_cmp model.0 key.model.0) refl h

  abbrev by_id : RowKey × BTreeMap ℕ Value → RecId × PlainRow
  by_id e = (e.0.id, shown_row e.1)

  abbrev shown_by_id : RowKey × PlainRow → RecId × PlainRow
  shown_by_id e = (e.0.id, e.1)

  abbrev show_one : RowKey × BTreeMap ℕ Value → RowKey × PlainRow
  show_one e = (e.0, shown_row e.1)

  -- the entries in the range show the rows of the model
  pub shown-between : (es : List (RowKey × BTreeMap ℕ Value)) → AllByRecursion (λ e. IsBelow model n e.0) es
      → map by_id (filter (λ e. is_between e.0) es) ≡ map shown_by_id (filter (λ e. e.0.model.0 == model.0) (map show_one es))
  shown-between [] h = refl
  shown-between (e ∷ es) h =
      ap (λ b. map by_id (cond b (e ∷ filter (λ f. is_between f.0) es) (filter (λ f. is_between f.0) es))) (between e.0 h.0) ∙ by_case (e.0.model.0 == model.0) (shown-between es h.1)
    where
      chosen : List (RowKey × BTreeMap ℕ Value)
      chosen = filter (λ f. is_between f.0) es

      rows : List (RowKey × PlainRow)
      rows = filter (λ f. f.0.model.0 == model.0) (map show_one es)

      by_case : (b : Bool) → map by_id chosen ≡ map shown_by_id rows → map by_id (cond b (e ∷ chosen) chosen) ≡ map shown_by_id (cond b (show_one e ∷ rows) rows)
      by_case true rest = ap (λ others. by_id e ∷ others) rest
      by_case false rest = rest

found_later : {X : Type 0} (b : Bool) (x : X) (l : Option X) → IsSome l → IsSome (cond b (Some x) l)
found_later true x l h = refl
found_later false x l h = h

-- what holds of each key that is found holds of the key of each entry
all-found : {X : Type 0} (P : RowKey → Type 0) (es : List (RowKey × X)) → ((q : RowKey) → IsSome (lookup (is_at (row_key_cmp q)) es) → P q) → AllByRecursion (λ e. P e.0) es
all-found P [] h = tt
all-found P (e ∷ es) h = (
  h e.0 (ap (λ r. is_some (cond (is_eq r) (Some e.1) (lookup (is_at (row_key_cmp e.0)) es))) (tied_itself rows_total e.0)),
  all-found P es (λ q s. h q (found_later (is_at (row_key_cmp q) e.0) e.1 (lookup (is_at (row_key_cmp q)) es) s)),
)

-- ids of entries are those of rows that are shown
pub ids-below : (rows : BTreeMap RowKey (BTreeMap ℕ Value)) (model : ModelNo) (n : ℕ) → ((id : RecId) → IsSome (finite.get (shown_rows rows) (key_of model id)) → id.0 < n)
    → AllByRecursion (λ e. IsBelow model n e.0) rows.entries
ids-below rows model n h = all-found (IsBelow model n) rows.entries (λ q s same.
    h q.id (subst (λ k. IsSome (finite.get (shown_rows rows) k)) (ap (λ m. key_of (record { 0 = m }) q.id) same) (has-shown_rows rows q ∙ s)))

both : (a b : Bool) → T a → T b → T (a && b)
both true b p q = q
both false b p q = p

module _ {X : Type 0} (R : RowKey → RowKey → Ordering) where
  below-from_keys : (k : RowKey) (es : List (RowKey × X)) → AllByRecursion (λ y. R k y ≡ Less) (keys_of es) → T (below_all R k es)
  below-from_keys k [] h = tt
  below-from_keys k (e ∷ es) h = both (is_lt (R k e.0)) (below_all R k es) (subst (λ r. T (is_lt r)) (sym h.0) tt) (below-from_keys k es h.1)

  sorted-from_keys : (es : List (RowKey × X)) → IsStrictlySortedBy R (keys_of es) → T (is_sorted R es)
  sorted-from_keys [] h = tt
  sorted-from_keys (e ∷ es) h = both (below_all R e.0 es) (is_sorted R es) (below-from_keys e.0 es (sorted_head R e.0 (keys_of es) h)) (sorted-from_keys es (sorted_tail R e.0 (keys_of es) h))

-- the entries of the rows that a map shows
pub entries-shown_rows : (rows : BTreeMap RowKey (BTreeMap ℕ Value)) → tree.IsOrdered row_key_cmp rows → finite.entries (shown_rows rows) ≡ map (λ e. (e.0, shown_row e.1)) rows.entries
entries-shown_rows rows ordered =
    let es = map (λ e. (e.0, shown_row e.1)) rows.entries in
    let rises = sorted-from_keys row_key_cmp es (subst (IsStrictlySortedBy row_key_cmp) (sym (keys-changed shown_row rows.entries)) ordered) in
    let same : shown_rows rows ≡ finite.from_sorted {R = row_key_cmp} es = finite.same_map rows_total exact_rows (shown_rows rows) (finite.from_sorted {R = row_key_cmp} es) (λ q.
    finite.get-from_entries rows_total es q ∙ sym (finite.get-from_sorted row_key_cmp es q rises)) in
    ap finite.entries same ∙ finite.entries-from_sorted row_key_cmp es rises
