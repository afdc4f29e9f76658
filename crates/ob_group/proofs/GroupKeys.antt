-- Groups of a map, each of the rows that have its keys, in the order of these.
use Rattle.std.proofs.Common.{◌≡◌, ℕ, zero, suc, ◌+◌, ◌<◌, ◌≤◌, Bool, true, false, cond, List, [], ◌∷◌, ◌++◌, map, filter, length, drop, Option, Some, None, Vec, Global, refl, sym, ap, subst, ◌∙◌, arith}
use Rattle.std.specs.Prelude.{All, Contains, is_some, slice_get}
use Rattle.std.specs.BTreeMap as tree
use Rattle.std.specs.Cmp.{IsTotalOrder, both_ways, on_total, tied_itself}
use Rattle.std.specs.Cmp.Lexicographic.{lists_total, slice_cmp}
use Rattle.std.specs.FinMap.{IsAntisymmetric, slice_cmp-IsAntisymmetric}
use Rattle.std.specs.List.{AllByRecursion, slice_index_or}
use Rattle.std.specs.List.Sorted.{IsStrictlySortedBy}
use Rattle.std.specs.Map.{keys_of as entry_keys, lookup}
use Rattle.std.specs.Option.{option_map_or}
use Rattle.std.specs.Ordering.{is_eq, ordering_then}
use Rattle.std.specs.declared.cmp.Ordering.{Ordering}
use Rattle.std.specs.declared.cmp.Ordering.TheVariants.{Less, Equal, Greater}
use Rattle.std.proofs.lemmas.List.{length-map, map-append}
use Rattle.std.proofs.lemmas.List.Elements.{All-from_recursion}
use Rattle.std.proofs.lemmas.Map.Entries.{btree_map_get_place, place_from_lookup}
use Rattle.std.proofs.lemmas.Option.{same_Some}
use Rattle.ob_base.proofs.CallerLemmas.{value_order_exact, value_order_total}
use Rattle.ob_base.specs.ValueOrder.{value_order}
use Rattle.ob_base.specs.declared.id.FieldNo.{FieldNo}
use Rattle.ob_base.specs.declared.id.RecId.{RecId}
use Rattle.ob_base.specs.declared.value.Value.{Value}
use Rattle.ob_base.specs.declared.value.Value.TheVariants as value
use Rattle.ob_group.proofs.Distinct.{contains-place, key_order_exact, map-place, place-contains, place-map, rising_order}
use Rattle.ob_query.proofs.CallerLemmas.{same_term}
use Rattle.ob_group.specs.GroupAmounts.{AreDistinct}
use Rattle.ob_group.specs.GroupForms.{AskedGroups, GroupTerm, Grouping}
use Rattle.ob_group.specs.GroupParts.{AreGathered, AreInOrder, AreOrderedGroups, AreSome, Groups, HasTexts, IsGroupOf, IsWhole, first_rows, group_at, group_of, is_alike, keys_order, own_keys, row_of, rows_among, rows_at, rows_in, sort_keys, sort_keys_of}
use Rattle.ob_query.specs.SearchKeys.{rising}
use Rattle.ob_group.specs.Groups.{group_order, keys_in, keys_of, rows_of, same_keys}
use Rattle.ob_query.specs.SearchKeys.{key_order, key_order_total}
use Rattle.ob_query.specs.SearchOrder.{by_direction, unset_last}
use Rattle.ob_group.specs.declared.told_groups.Group.{Group}
use Rattle.ob_query.specs.declared.searching.order.Key.{Key}

-- ---- lists of keys

eq_true : (o : Ordering) → is_eq o ≡ true → o ≡ Equal
eq_true Less e = absurd cc
eq_true Equal e = refl
eq_true Greater e = absurd cc

-- only equal lists of keys are alike, and only equal lists of values are the same
pub alike_same : (a b : List Key) → is_alike a b ≡ true → a ≡ b
alike_same a b e = slice_cmp-IsAntisymmetric key_order_exact a b (eq_true (keys_order a b) e)

pub alike_itself : (a : List Key) → is_alike a a ≡ true
alike_itself a = ap is_eq (tied_itself (lists_total key_order_total) a)

keys_same : (a b : List Value) → same_keys a b ≡ true → a ≡ b
keys_same a b e = slice_cmp-IsAntisymmetric value_order_exact a b (eq_true (slice_cmp value_order a b) e)

keys_itself : (a : List Value) → same_keys a a ≡ true
keys_itself a = ap is_eq (tied_itself (lists_total value_order_total) a)

abbrev its_value : Key → Value
its_value k = k.value

rising_back : (vs : List Value) → map its_value (map rising vs) ≡ vs
rising_back [] = refl
rising_back (v ∷ vs) = ap (λ (l : List Value). v ∷ l) (rising_back vs)

drop_front : {A : Type 0} (xs ys : List A) (n : ℕ) → n ≡ length xs → drop n (xs ++ ys) ≡ ys
drop_front [] ys n e = ap (λ (m : ℕ). drop m ys) e
drop_front (x ∷ xs) ys n e = ap (λ (m : ℕ). drop m (x ∷ (xs ++ ys))) e ∙ drop_front xs ys (length xs) refl

-- behind its keys for the terms a group has its own
pub own_back : (terms : List GroupTerm) (vs : List Value) → map its_value (drop (length terms) (sort_keys terms vs)) ≡ vs
own_back terms vs =
    let f : GroupTerm → Key = λ (term : GroupTerm). record { descending = term.descending; value = slice_index_or vs term.number value.Nil } in
    ap (map its_value) (drop_front (map f terms) (map rising vs) (length terms) (sym (length-map terms f))) ∙ rising_back vs

-- the keys of two groups are alike where their own are the same
pub alike_keys : (terms : List GroupTerm) (us vs : List Value) → is_alike (sort_keys terms us) (sort_keys terms vs) ≡ same_keys us vs
alike_keys terms us vs = both_ways (is_alike (sort_keys terms us) (sort_keys terms vs)) (same_keys us vs) to back where
  to : is_alike (sort_keys terms us) (sort_keys terms vs) ≡ true → same_keys us vs ≡ true
  to e =
      let same : us ≡ vs = sym (own_back terms us) ∙ ap (λ (l : List Key). map its_value (drop (length terms) l)) (alike_same (sort_keys terms us) (sort_keys terms vs) e) ∙ own_back terms vs in
      subst (λ (l : List Value). same_keys us l ≡ true) same (keys_itself us)

  back : same_keys us vs ≡ true → is_alike (sort_keys terms us) (sort_keys terms vs) ≡ true
  back e = subst (λ (l : List Value). is_alike (sort_keys terms us) (sort_keys terms l) ≡ true) (keys_same us vs e) (alike_itself (sort_keys terms us))

rising_lists : (us vs : List Value) → slice_cmp key_order (map rising us) (map rising vs) ≡ slice_cmp unset_last us vs
rising_lists [] [] = refl
rising_lists [] (v ∷ vs) = refl
rising_lists (u ∷ us) [] = refl
rising_lists (u ∷ us) (v ∷ vs) =
    ap (λ (o : Ordering). ordering_then o (slice_cmp key_order (map rising us) (map rising vs))) (rising_order u v) ∙ ap (ordering_then (unset_last u v)) (rising_lists us vs)

module _ (us vs : List Value) where
  first_keys : (terms : List GroupTerm) → slice_cmp key_order (map (λ (t : GroupTerm). record { descending = t.descending; value = slice_index_or us t.number value.Nil }) terms ++ map rising us)
      (map (λ (t : GroupTerm). record { descending = t.descending; value = slice_index_or vs t.number value.Nil }) terms ++ map rising vs) ≡ group_order terms us vs
  first_keys [] = rising_lists us vs
  first_keys (t ∷ terms) =
      ap (λ (o : Ordering). ordering_then o (keys_order (sort_keys terms us) (sort_keys terms vs))) (same_term t.descending (slice_index_or us t.number value.Nil) (slice_index_or vs t.number value.Nil))
      ∙ ap (ordering_then (by_direction t.descending (slice_index_or us t.number value.Nil) (slice_index_or vs t.number value.Nil))) (first_keys terms)

  -- they go by the terms, and then by all
  pub sorted_order : (terms : List GroupTerm) → keys_order (sort_keys terms us) (sort_keys terms vs) ≡ group_order terms us vs
  sorted_order terms = first_keys terms

-- ---- some of a list

filter_alike : {A : Type 0} (p q : A → Bool) (xs : List A) → ((x : A) → p x ≡ q x) → filter p xs ≡ filter q xs
filter_alike p q [] h = refl
filter_alike p q (x ∷ xs) h = ap (λ (b : Bool). cond b (x ∷ filter p xs) (filter p xs)) (h x) ∙ ap (λ l. cond (q x) (x ∷ l) l) (filter_alike p q xs h)

some_by : {A : Type 0} (p : A → Bool) (y : A) (xs : List A) (b : Bool) → p y ≡ b → 0 < length (cond b (y ∷ filter p xs) (filter p xs)) → (0 < length (filter p xs) → (i : ℕ) × (x : A) × (slice_get xs i ≡ Some x) × (p x ≡ true))
    → (i : ℕ) × (x : A) × (slice_get (y ∷ xs) i ≡ Some x) × (p x ≡ true)
some_by p y xs true is some later = (0, y, refl, is)
some_by p y xs false is some later = let at = later some in (suc at.0, at.1, at.2, at.3)

-- what is left of a list where some is left
pub filter_some : {A : Type 0} (p : A → Bool) (xs : List A) → 0 < length (filter p xs) → (i : ℕ) × (x : A) × (slice_get xs i ≡ Some x) × (p x ≡ true)
filter_some p [] some = absurd (omega arith)
filter_some p (y ∷ xs) some = some_by p y xs (p y) refl some (filter_some p xs)

kept_by : {A : Type 0} (p : A → Bool) (y : A) (xs : List A) (b : Bool) → b ≡ true → 0 < length (cond b (y ∷ filter p xs) (filter p xs))
kept_by p y xs true e = omega arith
kept_by p y xs false e = absurd cc

more_by : {A : Type 0} (p : A → Bool) (y : A) (xs : List A) (b : Bool) → 0 < length (filter p xs) → 0 < length (cond b (y ∷ filter p xs) (filter p xs))
more_by p y xs true some = omega arith
more_by p y xs false some = some

pub some_filter : {A : Type 0} (p : A → Bool) (xs : List A) (i : ℕ) (x : A) → slice_get xs i ≡ Some x → p x ≡ true → 0 < length (filter p xs)
some_filter p [] i x e passes = absurd cc
some_filter p (y ∷ xs) zero x e passes = kept_by p y xs (p y) (ap p (same_Some y x e) ∙ passes)
some_filter p (y ∷ xs) (suc i) x e passes = more_by p y xs (p y) (some_filter p xs i x e passes)

-- ---- a map of groups

abbrev pub Entry : Type 0
Entry = Vec Key Global × Vec (Vec Value Global) Global

abbrev pub vec_order : Vec Key Global → Vec Key Global → Ordering
vec_order a b = keys_order a.items b.items

vec_total : IsTotalOrder vec_order
vec_total = on_total (λ (v : Vec Key Global). v.items) (lists_total key_order_total)

there_is : {A : Type 0} (o : Option A) → is_some o ≡ true → (x : A) × (o ≡ Some x)
there_is None e = absurd cc
there_is (Some x) e = (x, refl)

some_at : (o : Option (Vec (Vec Value Global) Global)) → 0 < length (option_map_or rows_in o []) → is_some o ≡ true
some_at None some = absurd (omega arith)
some_at (Some x) some = refl

module _ (held : FieldNo → RecId → Value) (asked : AskedGroups) (ids : List RecId) (groups : Groups) (some : AreSome groups) (gathered : AreGathered held asked ids groups) (up : AreInOrder groups) where
  -- each group of the map has the keys of a row, and the rows that have them
  of_row : (i : ℕ) (e : Entry) → slice_get groups.entries i ≡ Some e → (j : ℕ) × (id : RecId) × (slice_get ids j ≡ Some id) × (e.0.items ≡ sort_keys_of held asked id) × (rows_in e.1 ≡ rows_among held asked ids e.0.items)
  of_row i e at =
      let got : group_at groups e.0.items ≡ Some e.1 = btree_map_get_place vec_total groups i e.0 e.1 up at in
      let rows : rows_at groups e.0.items ≡ rows_in e.1 = ap (λ (o : Option (Vec (Vec Value Global) Global)). option_map_or rows_in o []) got in
      let there : 0 < length (rows_at groups e.0.items) = some.rows e.0.items (ap is_some got) in
      let among : rows_in e.1 ≡ rows_among held asked ids e.0.items = sym rows ∙ gathered e.0.items in
      let p = λ (id : RecId). is_alike (sort_keys_of held asked id) e.0.items in
      let size : length (rows_among held asked ids e.0.items) ≡ length (filter p ids) = length-map (filter p ids) (row_of held asked.aggregates) in
      let same : length (rows_at groups e.0.items) ≡ length (rows_among held asked ids e.0.items) = ap length (gathered e.0.items) in
      let found = filter_some p ids (omega (arith, there, same, size)) in
      (found.0, found.1, found.2, sym (alike_same (sort_keys_of held asked found.1) e.0.items found.3), among)

  -- whose own keys are those of the row
  own_of : (i : ℕ) (e : Entry) → slice_get groups.entries i ≡ Some e → (j : ℕ) × (id : RecId) × (slice_get ids j ≡ Some id) × (own_keys asked (group_of e) ≡ keys_of held asked.groupings id)
  own_of i e at =
      let of = of_row i e at in
      (of.0, of.1, of.2, ap (λ (l : List Key). map its_value (drop (length asked.terms) l)) of.3 ∙ own_back asked.terms (keys_of held asked.groupings of.1))

  -- and its keys are by these
  keys_by : (i : ℕ) (e : Entry) → slice_get groups.entries i ≡ Some e → e.0.items ≡ sort_keys asked.terms (own_keys asked (group_of e))
  keys_by i e at =
      let of = of_row i e at in
      let own = ap (λ (l : List Key). map its_value (drop (length asked.terms) l)) of.3 ∙ own_back asked.terms (keys_of held asked.groupings of.1) in
      of.3 ∙ ap (sort_keys asked.terms) (sym own)

  group_is : (i : ℕ) (e : Entry) → slice_get groups.entries i ≡ Some e → IsGroupOf held asked ids (group_of e)
  group_is i e at =
      let of = of_row i e at in
      let own = own_of i e at in
      record {
        sized = ap length own.3 ∙ length-map asked.groupings (λ (g : Grouping). Rattle.ob_group.specs.GroupPeriods.group_value g.period (held g.field own.1));
        rows = of.4 ∙ ap (map (row_of held asked.aggregates)) (filter_alike (λ (id : RecId). is_alike (sort_keys_of held asked id) e.0.items) (λ (id : RecId). same_keys (keys_of held asked.groupings id) (own_keys asked (group_of e))) ids
            (λ id. ap (is_alike (sort_keys_of held asked id)) (keys_by i e at) ∙ alike_keys asked.terms (keys_of held asked.groupings id) (own_keys asked (group_of e))));
      }

  -- the group of each row is there
  has_row : (j : ℕ) (id : RecId) → slice_get ids j ≡ Some id → (i : ℕ) × (e : Entry) × (slice_get groups.entries i ≡ Some e) × (own_keys asked (group_of e) ≡ keys_of held asked.groupings id)
  has_row j id at =
      let keys = sort_keys_of held asked id in
      let p = λ (other : RecId). is_alike (sort_keys_of held asked other) keys in
      let kept = some_filter p ids j id at (alike_itself keys) in
      let size : length (rows_among held asked ids keys) ≡ length (filter p ids) = length-map (filter p ids) (row_of held asked.aggregates) in
      let same : length (rows_at groups keys) ≡ length (rows_among held asked ids keys) = ap length (gathered keys) in
      let found = there_is (group_at groups keys) (some_at (group_at groups keys) (omega (arith, kept, same, size))) in
      let place = place_from_lookup (tree.is_at (λ (own : Vec Key Global). keys_order keys own.items)) groups.entries found.0 found.1 in
      let is : keys ≡ place.1.items = alike_same keys place.1.items place.3 in
      (place.0, (place.1, found.0), place.2, ap (λ (l : List Key). map its_value (drop (length asked.terms) l)) (sym is) ∙ own_back asked.terms (keys_of held asked.groupings id))

each_at : {X : Type 0} (P : X → Type 0) (xs : List X) → ((i : ℕ) (x : X) → slice_get xs i ≡ Some x → P x) → AllByRecursion P xs
each_at P [] each = tt
each_at P (x ∷ xs) each = (each 0 x refl, each_at P xs (λ i y e. each (suc i) y e))

-- ---- their order

its_keys : Entry → Vec Key Global
its_keys e = e.0

module _ (asked : AskedGroups) where
  abbrev its_own : Entry → List Value
  its_own e = own_keys asked (group_of e)

  less_own : (e : Entry) (es : List Entry) → e.0.items ≡ sort_keys asked.terms (its_own e) → ((i : ℕ) (x : Entry) → slice_get es i ≡ Some x → x.0.items ≡ sort_keys asked.terms (its_own x))
      → AllByRecursion (λ k. vec_order e.0 k ≡ Less) (entry_keys es) → AllByRecursion (λ vs. group_order asked.terms (its_own e) vs ≡ Less) (map its_own es)
  less_own e [] is each h = tt
  less_own e (x ∷ es) is each h = (
    sym (ap (λ (l : List Key). keys_order l x.0.items) is ∙ ap (keys_order (sort_keys asked.terms (its_own e))) (each 0 x refl) ∙ sorted_order (its_own e) (its_own x) asked.terms) ∙ h.0,
    less_own e es is (λ i y at. each (suc i) y at) h.1,
  )

  own_rise : (es : List Entry) → ((i : ℕ) (x : Entry) → slice_get es i ≡ Some x → x.0.items ≡ sort_keys asked.terms (its_own x)) → IsStrictlySortedBy vec_order (entry_keys es) → IsStrictlySortedBy (group_order asked.terms) (map its_own es)
  unfolding IsStrictlySortedBy
  own_rise [] each up = tt
  own_rise (e ∷ es) each up = (less_own e es (each 0 e refl) (λ i y at. each (suc i) y at) up.0, own_rise es (λ i y at. each (suc i) y at) up.1)

  own_map : (es : List Entry) → map (own_keys asked) (map group_of es) ≡ map its_own es
  own_map [] = refl
  own_map (e ∷ es) = ap (λ (l : List (List Value)). its_own e ∷ l) (own_map es)

-- with groupings each group is told once
pub ordered_groups : (held : FieldNo → RecId → Value) (asked : AskedGroups) (ids : List RecId) (groups : Groups) (list : List Group) → AreSome groups → AreGathered held asked ids groups → AreInOrder groups → list ≡ map group_of groups.entries
    → keys_in held asked.groupings ids ≡ map (keys_of held asked.groupings) ids → AreOrderedGroups held asked ids list
ordered_groups held asked ids groups list some gathered up is keys = record { each_once = distinct; each = All-from_recursion (IsGroupOf held asked ids) list (subst (AllByRecursion (IsGroupOf held asked ids)) (sym is) (all_map groups.entries (λ i e at. group_is held asked ids groups some gathered up i e at))) } where
  all_map : (es : List Entry) → ((i : ℕ) (e : Entry) → slice_get es i ≡ Some e → IsGroupOf held asked ids (group_of e)) → AllByRecursion (IsGroupOf held asked ids) (map group_of es)
  all_map es each = each_at (IsGroupOf held asked ids) (map group_of es) (λ i g at. let own = map-place group_of es i g at in subst (IsGroupOf held asked ids) own.2 (each i own.0 own.1))

  owns : map (own_keys asked) list ≡ map (its_own asked) groups.entries
  owns = ap (map (own_keys asked)) is ∙ own_map asked groups.entries

  to : (x : List Value) → Contains (keys_in held asked.groupings ids) x → Contains (map (own_keys asked) list) x
  to x within =
      let at = contains-place (keys_in held asked.groupings ids) x within in
      let row = map-place (keys_of held asked.groupings) ids at.0 x (subst (λ (l : List (List Value)). slice_get l at.0 ≡ Some x) keys at.1) in
      let entry = has_row held asked ids groups some gathered up at.0 row.0 row.1 in
      subst (λ (l : List (List Value)). Contains l x) (sym owns)
      (place-contains (map (its_own asked) groups.entries) entry.0 x (place-map (its_own asked) groups.entries entry.0 entry.1 entry.2 ∙ ap Some (entry.3 ∙ row.2)))

  back : (x : List Value) → Contains (map (own_keys asked) list) x → Contains (keys_in held asked.groupings ids) x
  back x within =
      let at = contains-place (map (its_own asked) groups.entries) x (subst (λ (l : List (List Value)). Contains l x) owns within) in
      let entry = map-place (its_own asked) groups.entries at.0 x at.1 in
      let own = own_of held asked ids groups some gathered up at.0 entry.0 entry.1 in
      subst (λ (l : List (List Value)). Contains l x) (sym keys)
      (place-contains (map (keys_of held asked.groupings) ids) own.0 x (place-map (keys_of held asked.groupings) ids own.0 own.1 own.2 ∙ ap Some (sym own.3 ∙ entry.2)))

  distinct : AreDistinct (group_order asked.terms) (keys_in held asked.groupings ids) (map (own_keys asked) list)
  distinct = record {
    rising = subst (IsStrictlySortedBy (group_order asked.terms)) (sym owns) (own_rise asked groups.entries (λ i e at. keys_by held asked ids groups some gathered up i e at) up);
    same = λ x. (to x, back x);
  }

-- ---- one group of all

all_pass : {A : Type 0} (p : A → Bool) (xs : List A) → ((x : A) → p x ≡ true) → filter p xs ≡ xs
all_pass p [] h = refl
all_pass p (x ∷ xs) h = ap (λ (b : Bool). cond b (x ∷ filter p xs) (filter p xs)) (h x) ∙ ap (λ l. x ∷ l) (all_pass p xs h)

drop_none : (n : ℕ) (keys : List Key) → keys ≡ [] → drop n keys ≡ []
drop_none zero keys e = e
drop_none (suc n) [] e = refl
drop_none (suc n) (k ∷ keys) e = absurd cc

one_distinct : {X : Type 0} (order : X → X → Ordering) (x : X) → AreDistinct order (x ∷ []) (x ∷ [])
unfolding IsStrictlySortedBy
one_distinct order x = record { rising = (tt, tt); same = λ y. ((λ h. h), (λ h. h)) }

module _ (held : FieldNo → RecId → Value) (asked : AskedGroups) (ids : List RecId) (groups : Groups) (some : AreSome groups) (gathered : AreGathered held asked ids groups) (up : AreInOrder groups) (empty : asked.groupings ≡ []) where
  no_keys : (id : RecId) → keys_of held asked.groupings id ≡ []
  no_keys id = ap (λ (gs : List Grouping). keys_of held gs id) empty

  same_sort : (id : RecId) → sort_keys_of held asked id ≡ sort_keys asked.terms []
  same_sort id = ap (sort_keys asked.terms) (no_keys id)

  all_among : (keys : List Key) → keys ≡ sort_keys asked.terms [] → rows_among held asked ids keys ≡ map (row_of held asked.aggregates) ids
  all_among keys is = ap (map (row_of held asked.aggregates)) (all_pass (λ (id : RecId). is_alike (sort_keys_of held asked id) keys) ids
      (λ id. ap (λ (k : List Key). is_alike k keys) (same_sort id ∙ sym is) ∙ alike_itself keys))

  first_all : (es : List Entry) → groups.entries ≡ es → first_rows es ≡ map (row_of held asked.aggregates) ids
  first_all [] e =
      sym (ap (λ (es : List Entry). option_map_or rows_in (lookup (tree.is_at (λ (own : Vec Key Global). keys_order (sort_keys asked.terms []) own.items)) es) []) e)
      ∙ gathered (sort_keys asked.terms []) ∙ all_among (sort_keys asked.terms []) refl
  first_all (x ∷ es) e =
      let of = of_row held asked ids groups some gathered up 0 x (ap (λ (es : List Entry). slice_get es 0) e) in
      of.4 ∙ all_among x.0.items (of.3 ∙ same_sort of.1)

same_first : {A : Type 0} {x y : A} → x ∷ [] ≡ y ∷ [] → x ≡ y
same_first e = cc

the_whole : (held : FieldNo → RecId → Value) (asked : AskedGroups) (ids : List RecId) (groups : Groups) (list : Vec Group Global) → AreSome groups → AreGathered held asked ids groups → AreInOrder groups → (group : Group) → list.items ≡ group ∷ []
    → group.keys.items ≡ [] → rows_in group.rows ≡ first_rows groups.entries → asked.groupings ≡ [] → AreOrderedGroups held asked ids list.items
the_whole held asked ids groups list some gathered up group is none rows empty = record { each_once = distinct; each = All-from_recursion (IsGroupOf held asked ids) list.items (subst (AllByRecursion (IsGroupOf held asked ids)) (sym is) (one, tt)) } where
  own_none : own_keys asked group ≡ []
  own_none = ap (map its_value) (drop_none (length asked.terms) group.keys.items none)

  all_same : rows_of held asked.groupings ids (own_keys asked group) ≡ ids
  all_same = all_pass (λ (id : RecId). same_keys (keys_of held asked.groupings id) (own_keys asked group)) ids
      (λ id. ap (λ (a : List Value). same_keys a (own_keys asked group)) (no_keys held asked ids groups some gathered up empty id) ∙ ap (same_keys []) own_none ∙ keys_itself [])

  one : IsGroupOf held asked ids group
  one = record {
    sized = ap length own_none ∙ sym (ap length empty);
    rows = rows ∙ first_all held asked ids groups some gathered up empty groups.entries refl ∙ ap (map (row_of held asked.aggregates)) (sym all_same);
  }

  distinct : AreDistinct (group_order asked.terms) (keys_in held asked.groupings ids) (map (own_keys asked) list.items)
  distinct = subst (λ (l : List (List Value)). AreDistinct (group_order asked.terms) l (map (own_keys asked) list.items)) (sym (ap (λ (gs : List Grouping). keys_in held gs ids) empty))
      (subst (AreDistinct (group_order asked.terms) ([] ∷ [])) (sym (ap (map (own_keys asked)) is ∙ ap (λ (vs : List Value). vs ∷ []) own_none)) (one_distinct (group_order asked.terms) []))

-- without groupings there is one group, of all rows
pub whole_groups : (held : FieldNo → RecId → Value) (asked : AskedGroups) (ids : List RecId) (groups : Groups) (list : Vec Group Global) → AreSome groups → AreGathered held asked ids groups → AreInOrder groups → IsWhole groups list → asked.groupings ≡ []
    → AreOrderedGroups held asked ids list.items
whole_groups held asked ids groups list some gathered up whole empty = by (only list.items whole.keys) where
  only : (l : List Group) → map (λ (g : Group). g.keys.items) l ≡ [] ∷ [] → (g : Group) × (l ≡ g ∷ [])
  only [] e = absurd cc
  only (g ∷ []) e = (g, refl)
  only (g ∷ h ∷ l) e = absurd cc

  by : (g : Group) × (list.items ≡ g ∷ []) → AreOrderedGroups held asked ids list.items
  by found = the_whole held asked ids groups list some gathered up found.0 found.1 (same_first (ap (map (λ (g : Group). g.keys.items)) (sym found.1) ∙ whole.keys)) (same_first (ap (map (λ (g : Group). rows_in g.rows)) (sym found.1) ∙ whole.rows)) empty

-- the keys of each group have their texts
pub all_texts : (groups : Groups) (list : List Group) → AreSome groups → AreInOrder groups → list ≡ map group_of groups.entries → All HasTexts list
all_texts groups list some up is = All-from_recursion HasTexts list (subst (AllByRecursion HasTexts) (sym is) (each_at HasTexts (map group_of groups.entries) texts)) where
  texts : (i : ℕ) (g : Group) → slice_get (map group_of groups.entries) i ≡ Some g → HasTexts g
  texts i g at =
      let own = map-place group_of groups.entries i g at in
      let e : Entry = own.0 in
      subst HasTexts own.2 (some.texts e.0.items (ap is_some (btree_map_get_place vec_total groups i e.0 e.1 up own.1)))
