-- The rows of a model above an id: those between two keys, and their ids.
use Rattle.std.proofs.Common.{◌≡◌, ℕ, ◌<◌, ◌≤◌, ◌^◌, ◌==◌, nat_lt, Bool, true, false, not, ◌&&◌, cond, List, [], ◌∷◌, map, filter, Option, Some, None, IfSome, refl, sym, ap, subst, ◌∙◌, arith}
use Rattle.std.specs.declared.cmp.Ordering.{Ordering}
use Rattle.std.specs.declared.cmp.Ordering.TheVariants.{Less, Equal, Greater}
use Rattle.std.specs.declared.ops.Bound.TheVariants.{Included, Excluded}
use Rattle.std.specs.Ordering.{nat_cmp, is_lt, ordering_then}
use Rattle.std.specs.Cmp.{nat_cmp_total, tied_itself}
use Rattle.std.proofs.lemmas.Cmp.{ranked}
use Rattle.std.proofs.lemmas.Bool.{eqb-true, ltb-true}
use Rattle.std.proofs.lemmas.Bool.Decides.{nat_tests}
use Rattle.std.specs.List.{AllByRecursion}
use Rattle.std.specs.List.Sorted.{IsStrictlySortedBy}
use Rattle.std.specs.Map.{keys_of}
use Rattle.std.specs.BTreeMap.{IsOrdered}
use Rattle.std.specs.BTreeMap.Range.{range_contains, entries_between}
use Rattle.std.specs.FinMap as finite
use Rattle.ob_base.specs.declared.id.ModelNo.{ModelNo}
use Rattle.ob_base.specs.declared.id.RecId.{RecId}
use Rattle.ob_base.specs.declared.id.RowKey.{RowKey}
use Rattle.ob_io.specs.declared.store.KeptRow.{KeptRow}
use Rattle.ob_io.specs.declared.slots.Slots.{Slots}
use Rattle.ob_base.specs.Ids.{row_key_cmp}
use Rattle.ob_io.specs.Store.{Store, rows_after, Fits63, IsAnswerOf}
use Rattle.ob_io.specs.Slots.{shown_store}
use Rattle.ob_io.specs.Kept.{IsStoreFit}
use Rattle.ob_io.proofs.Shown.{rows_total, exact_rows}
use Rattle.ob_io.proofs.SortedEntries.{find-lookup, keys-from_is_sorted}
use Rattle.ob_io.proofs.Occupied.{contents-filter, entries-shown, all-entries}
use Rattle.ob_io.proofs.Held.{held}
use Rattle.ob_io.proofs.RisingIds.{id_cmp}

-- a key of the model, above the id
abbrev pub is_after : ModelNo → RecId → RowKey → Bool
is_after model after key = (key.model.0 == model.0) && nat_lt after.0 key.id.0

lt-nat_cmp : (a b : ℕ) → is_lt (nat_cmp a b) ≡ nat_lt a b
lt-nat_cmp a b = lt-cond (nat_lt a b) (a == b)
  where
    lt-cond : (x y : Bool) → is_lt (cond x Less (cond y Equal Greater)) ≡ x
    lt-cond true y = refl
    lt-cond false true = refl
    lt-cond false false = refl

differ : (k m : ℕ) → (k ≡ m → ⊥) → (k == m) ≡ false
differ k m h = grind (arith, nat_tests)

tied : (k m : ℕ) → m ≡ k → (k == m) ≡ true
tied k m h = grind (arith, nat_tests)

not_above : (i most : ℕ) → i ≤ most → nat_lt most i ≡ false
not_above i most h = grind (arith, nat_tests)

and-true : (b : Bool) → (b && true) ≡ b
and-true true = refl
and-true false = refl

-- which of three cases the models are in
by_models : (m k a i most : ℕ) (r : Ordering) → r ≡ nat_cmp m k → i ≤ most
    → (is_lt (ordering_then r (nat_cmp a i)) && not (is_lt (ordering_then r (nat_cmp most i)))) ≡ ((k == m) && nat_lt a i)
by_models m k a i most Less e h = sym (ap (λ b. b && nat_lt a i) (differ k m (apart (ranked m k Less e))))
  where
    apart : m < k → k ≡ m → ⊥
    apart lt is = omega arith
by_models m k a i most Equal e h =
    ap (λ b. is_lt (nat_cmp a i) && not b) (lt-nat_cmp most i ∙ not_above i most h) ∙ and-true (is_lt (nat_cmp a i)) ∙ lt-nat_cmp a i
    ∙ sym (ap (λ b. b && nat_lt a i) (tied k m (ranked m k Equal e)))
by_models m k a i most Greater e h = sym (ap (λ b. b && nat_lt a i) (differ k m (apart (ranked m k Greater e))))
  where
    apart : k < m → k ≡ m → ⊥
    apart lt is = omega arith

abbrev pub last_key : ModelNo → ℕ → RowKey
last_key model most = record { model = model; id = record { 0 = most } }

between : (model : ModelNo) (after : RecId) (most : ℕ) (key : RowKey) → key.id.0 ≤ most
    → range_contains row_key_cmp (Excluded (record { model = model; id = after })) (Included (last_key model most)) key ≡ is_after model after key
between model after most key h = by_models model.0 key.model.0 after.0 key.id.0 most (nat_cmp model.0 key.model.0) refl h

-- each entry of a store is an answer of its key, and its number is below 2^63
abbrev pub IsEntryFit : RowKey → KeptRow → Type 0
IsEntryFit key row = IsAnswerOf key.id row × Fits63 row.id.0

if_both : (o : Option KeptRow) (P Q : KeptRow → Type 0) → IfSome o P → IfSome o Q → IfSome o (λ row. P row × Q row)
if_both None P Q p q = tt
if_both (Some row) P Q p q = (p, q)

pub entries_fit : (store : Store) → IsStoreFit store → AllByRecursion (λ e. IsEntryFit e.0 e.1) (finite.entries store.rows)
entries_fit store fit = all-entries rows_total IsEntryFit (finite.entries store.rows) (keys-from_is_sorted row_key_cmp (finite.entries store.rows) (finite.entries_sorted store.rows)) (λ q.
    subst (λ o. IfSome o (IsEntryFit q)) (finite.get-entries store.rows q ∙ find-lookup row_key_cmp q (finite.entries store.rows))
    (if_both (finite.get store.rows q) (IsAnswerOf q.id) (λ row. Fits63 row.id.0) (fit.rows q) (fit.ids q)))

filter-same : (p q : RowKey → Bool) (es : List (RowKey × KeptRow)) → AllByRecursion (λ e. p e.0 ≡ q e.0) es → filter (λ e. p e.0) es ≡ filter (λ e. q e.0) es
filter-same p q [] h = refl
filter-same p q (e ∷ es) h = ap (λ b. cond b (e ∷ filter (λ f. p f.0) es) (filter (λ f. p f.0) es)) h.0 ∙ ap (λ fs. cond (q e.0) (e ∷ fs) fs) (filter-same p q es h.1)

all_between : (model : ModelNo) (after : RecId) (most : ℕ) (es : List (RowKey × KeptRow)) → 2 ^ 63 ≤ most → AllByRecursion (λ e. IsEntryFit e.0 e.1) es
    → AllByRecursion (λ e. range_contains row_key_cmp (Excluded (record { model = model; id = after })) (Included (last_key model most)) e.0 ≡ is_after model after e.0) es
all_between model after most [] large h = tt
all_between model after most (e ∷ es) large h =
    (between model after most e.0 (below e.1.id.0 e.0.id.0 (ap (λ id. id.0) h.0.0.same_id) h.0.1), all_between model after most es large h.1)
  where
    below : (i j : ℕ) → i ≡ j → i < 2 ^ 63 → j ≤ most
    below i j is small = omega arith

-- what the slots between the two keys hold is what the store has after the id
pub held-between : (s : Slots) (model : ModelNo) (after : RecId) (most : ℕ) → 2 ^ 63 ≤ most → IsOrdered row_key_cmp s.rows → IsStoreFit (shown_store s)
    → held (entries_between row_key_cmp (Excluded (record { model = model; id = after })) (Included (last_key model most)) s.rows.entries) ≡ rows_after (shown_store s) model after
held-between s model after most large ordered fit =
    let is = entries-shown rows_total exact_rows s.rows.entries ordered in
    let p = range_contains row_key_cmp (Excluded (record { model = model; id = after })) (Included (last_key model most)) in
    contents-filter p s.rows.entries ∙ ap (λ es. map (λ e. e.1) (filter (λ e. p e.0) es)) (sym is)
    ∙ ap (map (λ e. e.1)) (filter-same p (is_after model after) (finite.entries (shown_store s).rows) (all_between model after most (finite.entries (shown_store s).rows) large (entries_fit (shown_store s) fit)))

-- the ids of the rows after an id: above it, below 2^63 and rising
abbrev pub IsAbove : RecId → RecId → Type 0
IsAbove after id = (after.0 < id.0) × Fits63 id.0

chosen : (b c : Bool) → (b && c) ≡ true → (b ≡ true) × (c ≡ true)
chosen true c h = (refl, h)
chosen false c h = cc

is_later : (model : ModelNo) (after : RecId) (key : RowKey) → is_after model after key ≡ true → (key.model.0 ≡ model.0) × (after.0 < key.id.0)
is_later model after key h =
    let parts = chosen (key.model.0 == model.0) (nat_lt after.0 key.id.0) h in
    (eqb-true key.model.0 model.0 parts.0, ltb-true after.0 key.id.0 parts.1)

same_model : (a b : RowKey) → a.model.0 ≡ b.model.0 → row_key_cmp a b ≡ Less → nat_cmp a.id.0 b.id.0 ≡ Less
same_model a b is h =
    sym (ap (λ r. ordering_then r (nat_cmp a.id.0 b.id.0)) (ap (nat_cmp a.model.0) (sym is) ∙ tied_itself nat_cmp_total a.model.0)) ∙ h

-- rows by their ids
abbrev pub row_cmp : KeptRow → KeptRow → Ordering
row_cmp a b = id_cmp a.id b.id

module _ (model : ModelNo) (after : RecId) where
  abbrev pub later : List (RowKey × KeptRow) → List KeptRow
  later es = map (λ e. e.1) (filter (λ e. is_after model after e.0) es)

  -- a fact of the rows of the entries that are taken
  all-later : (P : KeptRow → Type 0) (es : List (RowKey × KeptRow)) → AllByRecursion (λ e. is_after model after e.0 ≡ true → P e.1) es → AllByRecursion P (later es)
  all-later P [] h = tt
  all-later P (e ∷ es) h = one (is_after model after e.0) h.0 (all-later P es h.1)
    where
      one : (b : Bool) → (b ≡ true → P e.1) → AllByRecursion P (later es) → AllByRecursion P (map (λ e. e.1) (cond b (e ∷ filter (λ e. is_after model after e.0) es) (filter (λ e. is_after model after e.0) es)))
      one true here rest = (here refl, rest)
      one false here rest = rest

  above : (e : RowKey × KeptRow) → IsEntryFit e.0 e.1 → is_after model after e.0 ≡ true → IsAbove after e.1.id
  above e fit h = (subst (λ id. after.0 < id.0) (sym fit.0.same_id) (is_later model after e.0 h).1, fit.1)

  pub all_above : (es : List (RowKey × KeptRow)) → AllByRecursion (λ e. IsEntryFit e.0 e.1) es → AllByRecursion (λ row. IsAbove after row.id) (later es)
  all_above es h = all-later (λ row. IsAbove after row.id) es (each es h)
    where
      each : (es : List (RowKey × KeptRow)) → AllByRecursion (λ e. IsEntryFit e.0 e.1) es → AllByRecursion (λ e. is_after model after e.0 ≡ true → IsAbove after e.1.id) es
      each [] h = tt
      each (e ∷ es) h = (above e h.0, each es h.1)

  pub all_answers : (es : List (RowKey × KeptRow)) → AllByRecursion (λ e. IsEntryFit e.0 e.1) es → AllByRecursion (λ row. IsAnswerOf row.id row) (later es)
  all_answers es h = all-later (λ row. IsAnswerOf row.id row) es (each es h)
    where
      each : (es : List (RowKey × KeptRow)) → AllByRecursion (λ e. IsEntryFit e.0 e.1) es → AllByRecursion (λ e. is_after model after e.0 ≡ true → IsAnswerOf e.1.id e.1) es
      each [] h = tt
      each (e ∷ es) h = ((λ _. record { same_id = refl; rising = h.0.0.rising; targets = h.0.0.targets }), each es h.1)

  next_above : (e f : RowKey × KeptRow) → IsEntryFit e.0 e.1 → IsEntryFit f.0 f.1 → row_key_cmp e.0 f.0 ≡ Less → is_after model after e.0 ≡ true → is_after model after f.0 ≡ true → row_cmp e.1 f.1 ≡ Less
  next_above e f fit fit' h here there =
      ap (λ id. id_cmp id f.1.id) fit.0.same_id ∙ ap (id_cmp e.0.id) fit'.0.same_id
      ∙ same_model e.0 f.0 ((is_later model after e.0 here).0 ∙ sym (is_later model after f.0 there).0) h

  first_below : (e : RowKey × KeptRow) (es : List (RowKey × KeptRow)) → is_after model after e.0 ≡ true → IsEntryFit e.0 e.1 → AllByRecursion (λ f. IsEntryFit f.0 f.1) es
      → AllByRecursion (λ k. row_key_cmp e.0 k ≡ Less) (keys_of es) → AllByRecursion (λ row. row_cmp e.1 row ≡ Less) (later es)
  first_below e es here fit h below = all-later (λ row. row_cmp e.1 row ≡ Less) es (each es h below)
    where
      each : (es : List (RowKey × KeptRow)) → AllByRecursion (λ f. IsEntryFit f.0 f.1) es → AllByRecursion (λ k. row_key_cmp e.0 k ≡ Less) (keys_of es)
          → AllByRecursion (λ f. is_after model after f.0 ≡ true → row_cmp e.1 f.1 ≡ Less) es
      each [] h below = tt
      each (f ∷ es) h below = ((λ there. next_above e f fit h.0 below.0 here there), each es h.1 below.1)

  pub rising : (es : List (RowKey × KeptRow)) → AllByRecursion (λ f. IsEntryFit f.0 f.1) es → IsStrictlySortedBy row_key_cmp (keys_of es) → IsStrictlySortedBy row_cmp (later es)
  unfolding IsStrictlySortedBy
  rising [] h sorted = tt
  rising (e ∷ es) h sorted = one (is_after model after e.0) (λ here. first_below e es here h.0 h.1 sorted.0) (rising es h.1 sorted.1)
    where
      one : (b : Bool) → (b ≡ true → AllByRecursion (λ row. row_cmp e.1 row ≡ Less) (later es)) → IsStrictlySortedBy row_cmp (later es)
          → IsStrictlySortedBy row_cmp (map (λ e. e.1) (cond b (e ∷ filter (λ e. is_after model after e.0) es) (filter (λ e. is_after model after e.0) es)))
      one true here rest = (here refl, rest)
      one false here rest = rest
