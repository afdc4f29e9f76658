-- The ids of the rows of a model rise.
use Rattle.std.proofs.Common.{◌≡◌, ◌<◌, ◌==◌, ℕ, Bool, true, false, cond, ◌&&◌, T, List, [], ◌∷◌, ◌++◌, map, filter, refl, sym, ap, ◌∙◌, append_assoc}
use Rattle.std.specs.declared.cmp.Ordering.{Ordering}
use Rattle.std.specs.declared.cmp.Ordering.TheVariants.{Less, Equal, Greater}
use Rattle.std.specs.Ordering.{nat_cmp, is_lt, ordering_then}
use Rattle.std.specs.Cmp.{nat_cmp_total, tied_itself}
use Rattle.std.specs.List.{All, AllByRecursion}
use Rattle.std.specs.List.Sorted.{IsStrictlySortedBy}
use Rattle.std.specs.FinMap as finite
use Rattle.std.specs.FinMap.Entries.{below_all, is_sorted}
use Rattle.std.proofs.lemmas.Bool.{eqb-true}
use Rattle.std.proofs.lemmas.Cmp.{ranked}
use Rattle.std.proofs.lemmas.List.Elements.{All-nil, All-cons, All-weaker}
use Rattle.std.proofs.lemmas.Map.Keys.{sorted_head, sorted_tail}
use Rattle.std.specs.BTreeMap.{BTreeMap}
use Rattle.ob_base.specs.declared.id.ModelNo.{ModelNo}
use Rattle.ob_base.specs.declared.id.RecId.{RecId}
use Rattle.ob_base.specs.declared.value.Value.{Value}
use Rattle.ob_base.specs.declared.id.RowKey.{RowKey}
use Rattle.ob_base.specs.Ids.{row_key_cmp}
use Rattle.ob_tables.specs.Rooms.{shown_row}
use Rattle.ob_schema.specs.Tables.{PlainRow, Tables, ids_in}

-- ids by their numbers
abbrev pub id_cmp : RecId → RecId → Ordering
id_cmp a b = nat_cmp a.0 b.0

module _ {X : Type 0} where
  mid : (P : X → Type 0) (xs : List X) (x : X) (ys : List X) → AllByRecursion P (xs ++ x ∷ ys) → P x
  mid P [] x ys h = h.0
  mid P (a ∷ xs) x ys h = mid P xs x ys h.1

  without : (P : X → Type 0) (xs : List X) (x : X) (ys : List X) → AllByRecursion P (xs ++ x ∷ ys) → AllByRecursion P (xs ++ ys)
  without P [] x ys h = h.1
  without P (a ∷ xs) x ys h = (h.0, without P xs x ys h.1)

  -- what stands before a key is below it
  before : (c : X → X → Ordering) (xs : List X) (x : X) (ys : List X) → IsStrictlySortedBy c (xs ++ x ∷ ys) → All (λ q. c q x ≡ Less) xs
  before c [] x ys h = All-nil (λ q. c q x ≡ Less)
  before c (a ∷ xs) x ys h = All-cons (λ q. c q x ≡ Less) a xs (mid (λ y. c a y ≡ Less) xs x ys (sorted_head c a (xs ++ x ∷ ys) h)) (before c xs x ys (sorted_tail c a (xs ++ x ∷ ys) h))

  -- keys in order stay so when one is left out
  pub sorted-without : (c : X → X → Ordering) (xs : List X) (x : X) (ys : List X) → IsStrictlySortedBy c (xs ++ x ∷ ys) → IsStrictlySortedBy c (xs ++ ys)
  unfolding IsStrictlySortedBy
  sorted-without c [] x ys h = h.1
  sorted-without c (a ∷ xs) x ys h = (without (λ y. c a y ≡ Less) xs x ys h.0, sorted-without c xs x ys h.1)

-- the ids before one that rise are below it
pub below-next : (ids : List RecId) (id : RecId) (rest : List RecId) → IsStrictlySortedBy id_cmp (ids ++ id ∷ rest) → All (λ b. b.0 < id.0) ids
below-next ids id rest h = All-weaker (λ b. id_cmp b id ≡ Less) (λ b. b.0 < id.0) (λ b e. ranked b.0 id.0 Less (sym e)) ids (before id_cmp ids id rest h)

-- an id that is pushed is the next of those that are left
pub pushed : (ids new : List RecId) (id : RecId) (rest : List RecId) → new ≡ ids ++ id ∷ [] → new ++ rest ≡ ids ++ id ∷ rest
pushed ids new id rest is = ap (λ l. l ++ rest) is ∙ append_assoc ids (id ∷ []) rest

same_model : (a b : RowKey) → a.model.0 ≡ b.model.0 → row_key_cmp a b ≡ Less → id_cmp a.id b.id ≡ Less
same_model a b is h = sym (ap (λ r. ordering_then r (nat_cmp a.id.0 b.id.0)) (ap (nat_cmp a.model.0) (sym is) ∙ tied_itself nat_cmp_total a.model.0)) ∙ h

less : (r : Ordering) → T (is_lt r) → r ≡ Less
less Less p = refl
less Equal p = absurd p
less Greater p = absurd p

first : (a b : Bool) → T (a && b) → T a
first true b p = tt
first false b p = p

second : (a b : Bool) → T (a && b) → T b
second true b p = p
second false b p = absurd p

module _ (model : ModelNo) where
  abbrev of_model : RowKey × PlainRow → Bool
  of_model e = e.0.model.0 == model.0

  abbrev with_id : RowKey × PlainRow → RecId × PlainRow
  with_id e = (e.0.id, e.1)

  abbrev its_id : RecId × PlainRow → RecId
  its_id e = e.0

  abbrev ids_of : List (RowKey × PlainRow) → List RecId
  ids_of es = map its_id (map with_id es)

  all_above : (k : RowKey) (es : List (RowKey × PlainRow)) → k.model.0 ≡ model.0 → T (below_all row_key_cmp k es) → AllByRecursion (λ id. id_cmp k.id id ≡ Less) (ids_of (filter of_model es))
  all_above k [] is h = tt
  all_above k (e ∷ es) is h = by_case (of_model e) refl (all_above k es is (second (is_lt (row_key_cmp k e.0)) (below_all row_key_cmp k es) h))
    where
      by_case : (b : Bool) → of_model e ≡ b → AllByRecursion (λ id. id_cmp k.id id ≡ Less) (ids_of (filter of_model es))
          → AllByRecursion (λ id. id_cmp k.id id ≡ Less) (ids_of (cond b (e ∷ filter of_model es) (filter of_model es)))
      by_case true of rest = (same_model k e.0 (is ∙ sym (eqb-true e.0.model.0 model.0 of)) (less (row_key_cmp k e.0) (first (is_lt (row_key_cmp k e.0)) (below_all row_key_cmp k es) h)), rest)
      by_case false of rest = rest

  rise : (es : List (RowKey × PlainRow)) → T (is_sorted row_key_cmp es) → IsStrictlySortedBy id_cmp (ids_of (filter of_model es))
  unfolding IsStrictlySortedBy
  rise [] h = tt
  rise (e ∷ es) h = by_case (of_model e) refl (rise es (second (below_all row_key_cmp e.0 es) (is_sorted row_key_cmp es) h))
    where
      by_case : (b : Bool) → of_model e ≡ b → IsStrictlySortedBy id_cmp (ids_of (filter of_model es)) → IsStrictlySortedBy id_cmp (ids_of (cond b (e ∷ filter of_model es) (filter of_model es)))
      by_case true of rest = (all_above e.0 es (eqb-true e.0.model.0 model.0 of) (first (below_all row_key_cmp e.0 es) (is_sorted row_key_cmp es) h), rest)
      by_case false of rest = rest

  -- the ids of a model rise
  pub ids-rise : (t : Tables) → IsStrictlySortedBy id_cmp (ids_in t model)
  ids-rise t = rise (finite.entries t.rows) (finite.entries_sorted t.rows)

-- an entry as the row that it shows with its id
abbrev pub shown_entry : RowKey × BTreeMap ℕ Value → RecId × PlainRow
shown_entry e = (e.0.id, shown_row e.1)

abbrev pub entry_id : RowKey × BTreeMap ℕ Value → RecId
entry_id e = e.0.id

-- the ids of entries are those of the rows that they show
pub entry-ids : (es : List (RowKey × BTreeMap ℕ Value)) → map (λ (e : RecId × PlainRow). e.0) (map shown_entry es) ≡ map entry_id es
entry-ids [] = refl
entry-ids (e ∷ es) = ap (λ ids. e.0.id ∷ ids) (entry-ids es)

module _ (p : RecId × PlainRow → Bool) where
  -- the ids of the shown rows that pass
  abbrev pub chosen_ids : List (RowKey × BTreeMap ℕ Value) → List RecId
  chosen_ids es = map (λ entry. entry.0) (filter p (map shown_entry es))

  pub chosen-more : (from es : List (RowKey × BTreeMap ℕ Value)) (e : RowKey × BTreeMap ℕ Value) → from ≡ e ∷ es → p (shown_entry e) ≡ true → chosen_ids from ≡ e.0.id ∷ chosen_ids es
  chosen-more from es e is passes = ap chosen_ids is ∙ ap (λ b. map (λ entry. entry.0) (cond b (shown_entry e ∷ filter p (map shown_entry es)) (filter p (map shown_entry es)))) passes

  pub chosen-passed : (from es : List (RowKey × BTreeMap ℕ Value)) (e : RowKey × BTreeMap ℕ Value) → from ≡ e ∷ es → p (shown_entry e) ≡ false → chosen_ids from ≡ chosen_ids es
  chosen-passed from es e is fails = ap chosen_ids is ∙ ap (λ b. map (λ entry. entry.0) (cond b (shown_entry e ∷ filter p (map shown_entry es)) (filter p (map shown_entry es)))) fails

  all_chosen : (P : RecId → Type 0) (rows : List (RecId × PlainRow)) → AllByRecursion P (map (λ entry. entry.0) rows) → AllByRecursion P (map (λ entry. entry.0) (filter p rows))
  all_chosen P [] h = tt
  all_chosen P (e ∷ rows) h = by_case (p e) (all_chosen P rows h.1)
    where
      by_case : (b : Bool) → AllByRecursion P (map (λ entry. entry.0) (filter p rows)) → AllByRecursion P (map (λ entry. entry.0) (cond b (e ∷ filter p rows) (filter p rows)))
      by_case true rest = (h.0, rest)
      by_case false rest = rest

  -- the ids of rows that pass rise where those of all do
  pub chosen-rise : (rows : List (RecId × PlainRow)) → IsStrictlySortedBy id_cmp (map (λ entry. entry.0) rows) → IsStrictlySortedBy id_cmp (map (λ entry. entry.0) (filter p rows))
  unfolding IsStrictlySortedBy
  chosen-rise [] h = tt
  chosen-rise (e ∷ rows) h = by_case (p e) (chosen-rise rows h.1)
    where
      by_case : (b : Bool) → IsStrictlySortedBy id_cmp (map (λ entry. entry.0) (filter p rows)) → IsStrictlySortedBy id_cmp (map (λ entry. entry.0) (cond b (e ∷ filter p rows) (filter p rows)))
      by_case true rest = (all_chosen (λ other. id_cmp e.0 other ≡ Less) rows h.0, rest)
      by_case false rest = rest
