-- The rows of a model in a store: page after page, and each of them by its id.
use Rattle.std.proofs.Common.{◌≡◌, ◌==◌, ◌<◌, ◌≤◌, ◌++◌, inl, inr, ℕ, zero, suc, nat_lt, Bool, true, false, ◌&&◌, cond, List, [], ◌∷◌, map, filter, Option, Some, None, refl, sym, ap, subst, ◌∙◌, arith, eqb-true, eq-eqb, ltb-true}
use Rattle.std.specs.FinMap as finite
use Rattle.std.specs.FinMap.Entries.{find}
use Rattle.std.specs.List.{AllByRecursion}
use Rattle.std.specs.List.Sorted.{IsStrictlySortedBy}
use Rattle.std.specs.Option.{option_map_or}
use Rattle.std.specs.Ordering.{is_eq, nat_cmp, ordering_then}
use Rattle.std.specs.Cmp.{nat_cmp_total, tied_itself}
use Rattle.std.specs.declared.cmp.Ordering.{Ordering}
use Rattle.std.specs.declared.cmp.Ordering.TheVariants.{Less}
use Rattle.std.proofs.lemmas.Bool.{and_parts}
use Rattle.std.proofs.lemmas.Bool.Decides.{nat_tests}
use Rattle.std.proofs.lemmas.Cmp.{ranked}
use Rattle.std.proofs.lemmas.List.Kept.{IsStrictlySortedBy-filter}
use Rattle.std.proofs.lemmas.Map.Views.{tells_apart}
use Rattle.std.proofs.lemmas.Option.{same_Some}
use Rattle.ob_base.specs.Ids.{row_key_cmp}
use Rattle.ob_base.specs.declared.id.ModelNo.{ModelNo}
use Rattle.ob_base.specs.declared.id.RecId.{RecId}
use Rattle.ob_base.specs.declared.id.RowKey.{RowKey}
use Rattle.ob_audit.specs.Reading.{EachBefore, IsOneOf, rows_of}
use Rattle.ob_audit.proofs.StoreTables.{of-each, of-one}
use Rattle.ob_io.specs.Store.{RowsNamed, Store, row_at, rows_after}
use Rattle.ob_io.specs.declared.store.KeptRow.{KeptRow}
use Rattle.ob_io.proofs.CallerLemmas.{exact_rows, keys-from_is_sorted, rows_total, sorted-unmap}
use Rattle.ob_tables.proofs.CallerLemmas.{Stands, entry_found, known_if}

-- an entry of a store
abbrev Entry : Type 0
Entry = RowKey × KeptRow

-- by their keys
abbrev entry_cmp : Entry → Entry → Ordering
entry_cmp a b = row_key_cmp a.0 b.0

-- an entry of the model, above an id
abbrev is_after : ModelNo → RecId → Entry → Bool
is_after model after e = (e.0.model.0 == model.0) && nat_lt after.0 e.0.id.0

-- ---- lists

filter-within : {X : Type 0} (p q : X → Bool) → ((x : X) → q x ≡ true → p x ≡ true) → (xs : List X) → filter q (filter p xs) ≡ filter q xs
filter-within p q more [] = refl
filter-within {X = X} p q more (x ∷ xs) = by (p x) (q x) refl refl (more x) (filter-within p q more xs)
  where
    by : (b c : Bool) → p x ≡ b → q x ≡ c → (q x ≡ true → p x ≡ true) → filter q (filter p xs) ≡ filter q xs → filter q (cond b (x ∷ filter p xs) (filter p xs)) ≡ cond c (x ∷ filter q xs) (filter q xs)
    by true c pass is imply rest = ap (λ (t : Bool). cond t (x ∷ filter q (filter p xs)) (filter q (filter p xs))) is ∙ ap (λ (l : List X). cond c (x ∷ l) l) rest
    by false true pass is imply rest = absurd (let both : false ≡ true = sym pass ∙ imply is in cc)
    by false false pass is imply rest = rest

filter-passed : {X : Type 0} (p : X → Bool) (xs : List X) → AllByRecursion (λ x. p x ≡ true) (filter p xs)
filter-passed p [] = tt
filter-passed {X = X} p (x ∷ xs) = by (p x) refl (filter-passed p xs)
  where
    by : (b : Bool) → p x ≡ b → AllByRecursion (λ y. p y ≡ true) (filter p xs) → AllByRecursion (λ y. p y ≡ true) (cond b (x ∷ filter p xs) (filter p xs))
    by true is rest = (is, rest)
    by false is rest = rest

filter-all : {X : Type 0} (p : X → Bool) (xs : List X) → AllByRecursion (λ x. p x ≡ true) xs → filter p xs ≡ xs
filter-all p [] all = refl
filter-all {X = X} p (x ∷ xs) all = ap (λ (b : Bool). cond b (x ∷ filter p xs) (filter p xs)) all.0 ∙ ap (λ (l : List X). x ∷ l) (filter-all p xs all.1)

filter-behind : {X : Type 0} (p : X → Bool) (front : List X) (x : X) (rest : List X) → AllByRecursion (λ y. p y ≡ false) front → p x ≡ false → AllByRecursion (λ y. p y ≡ true) rest → filter p (front ++ x ∷ rest) ≡ rest
filter-behind {X = X} p [] x rest before here behind = ap (λ (b : Bool). cond b (x ∷ filter p rest) (filter p rest)) here ∙ filter-all p rest behind
filter-behind {X = X} p (y ∷ front) x rest before here behind =
    ap (λ (b : Bool). cond b (y ∷ filter p (front ++ x ∷ rest)) (filter p (front ++ x ∷ rest))) before.0 ∙ filter-behind p front x rest before.1 here behind

one-kept : {X : Type 0} (p : X → Bool) (x : X) (xs : List X) → IsOneOf x xs → p x ≡ true → IsOneOf x (filter p xs)
one-kept p x [] one is = absurd one
one-kept {X = X} p x (y ∷ xs) one is = by (p y) refl one (λ later. one-kept p x xs later is)
  where
    by : (b : Bool) → p y ≡ b → IsOneOf x (y ∷ xs) → (IsOneOf x xs → IsOneOf x (filter p xs)) → IsOneOf x (cond b (y ∷ filter p xs) (filter p xs))
    by true pass (inl same) rest = inl same
    by true pass (inr later) rest = inr (rest later)
    by false pass (inl same) rest = absurd (let both : false ≡ true = sym pass ∙ ap p (sym same) ∙ is in cc)
    by false pass (inr later) rest = rest later

one-filtered : {X : Type 0} (p : X → Bool) (x : X) (xs : List X) → IsOneOf x (filter p xs) → IsOneOf x xs × (p x ≡ true)
one-filtered p x [] one = absurd one
one-filtered {X = X} p x (y ∷ xs) one = by (p y) refl one (one-filtered p x xs)
  where
    by : (b : Bool) → p y ≡ b → IsOneOf x (cond b (y ∷ filter p xs) (filter p xs)) → (IsOneOf x (filter p xs) → IsOneOf x xs × (p x ≡ true)) → IsOneOf x (y ∷ xs) × (p x ≡ true)
    by true pass (inl same) rest = (inl same, ap p same ∙ pass)
    by true pass (inr later) rest = let r = rest later in (inr r.0, r.1)
    by false pass one rest = let r = rest one in (inr r.0, r.1)

one-mapped : {X Y : Type 0} (f : X → Y) (x : X) (xs : List X) → IsOneOf x xs → IsOneOf (f x) (map f xs)
one-mapped f x [] one = absurd one
one-mapped f x (y ∷ xs) (inl same) = inl (ap f same)
one-mapped f x (y ∷ xs) (inr later) = inr (one-mapped f x xs later)

pub one-unmapped : {X Y : Type 0} (f : X → Y) (y : Y) (xs : List X) → IsOneOf y (map f xs) → (x : X) × IsOneOf x xs × (y ≡ f x)
one-unmapped f y [] one = absurd one
one-unmapped f y (x ∷ xs) (inl same) = (x, inl refl, same)
one-unmapped f y (x ∷ xs) (inr later) = let r = one-unmapped f y xs later in (r.0, inr r.1, r.2)

one-stands : {X : Type 0} (x : X) (xs : List X) → IsOneOf x xs → Stands x xs
one-stands x [] one = one
one-stands x (y ∷ xs) (inl same) = inl same
one-stands x (y ∷ xs) (inr later) = inr (one-stands x xs later)

pub one-right : {X : Type 0} (x : X) (xs ys : List X) → IsOneOf x ys → IsOneOf x (xs ++ ys)
one-right x [] ys one = one
one-right x (y ∷ xs) ys one = inr (one-right x xs ys one)

pub all-appended : {X : Type 0} (P : X → Type 0) (xs ys : List X) → AllByRecursion P xs → AllByRecursion P ys → AllByRecursion P (xs ++ ys)
all-appended P [] ys here later = later
all-appended P (x ∷ xs) ys here later = (here.0, all-appended P xs ys here.1 later)

-- a list whose values fall apart at one falls apart there
map-split : {X Y : Type 0} (f : X → Y) (xs : List X) (front : List Y) (y : Y) (rest : List Y) → map f xs ≡ front ++ y ∷ rest
    → (heads : List X) × (x : X) × (tails : List X) × (xs ≡ heads ++ x ∷ tails) × (f x ≡ y) × (map f tails ≡ rest)
map-split f [] [] y rest is = absurd cc
map-split f [] (z ∷ front) y rest is = absurd cc
map-split f (x ∷ xs) [] y rest is = ([], x, xs, refl, (let same : f x ≡ y = cc in same), (let same : map f xs ≡ rest = cc in same))
map-split {X = X} f (x ∷ xs) (z ∷ front) y rest is =
    let r = map-split f xs front y rest (let same : map f xs ≡ front ++ y ∷ rest = cc in same) in
    (x ∷ r.0, r.1, r.2, ap (λ (l : List X). x ∷ l) {y = r.0 ++ r.1 ∷ r.2} r.3, r.4, r.5)

sorted-around : {X : Type 0} (c : X → X → Ordering) (front : List X) (x : X) (rest : List X) → IsStrictlySortedBy c (front ++ x ∷ rest) → AllByRecursion (λ y. c y x ≡ Less) front × AllByRecursion (λ y. c x y ≡ Less) rest
unfolding IsStrictlySortedBy
sorted-around c [] x rest sorted = (tt, sorted.0)
sorted-around {X = X} c (y ∷ front) x rest sorted = let r = sorted-around c front x rest sorted.1 in ((mid front sorted.0, r.0), r.1)
  where
    mid : (others : List X) → AllByRecursion (λ z. c y z ≡ Less) (others ++ x ∷ rest) → c y x ≡ Less
    mid [] all = all.0
    mid (z ∷ others) all = mid others all.1

weaker : {X : Type 0} (P Q : X → Type 0) → ((x : X) → P x → Q x) → (xs : List X) → AllByRecursion P xs → AllByRecursion Q xs
weaker P Q more [] all = tt
weaker P Q more (x ∷ xs) all = (more x all.0, weaker P Q more xs all.1)

both : {X : Type 0} (P Q : X → Type 0) (xs : List X) → AllByRecursion P xs → AllByRecursion Q xs → AllByRecursion (λ x. P x × Q x) xs
both P Q [] ps qs = tt
both P Q (x ∷ xs) ps qs = ((ps.0, qs.0), both P Q xs ps.1 qs.1)

-- ---- keys

same-model : (a b : RowKey) → a.model.0 ≡ b.model.0 → row_key_cmp a b ≡ Less → a.id.0 < b.id.0
same-model a b is less =
    ranked a.id.0 b.id.0 Less (sym (sym (ap (λ r. ordering_then r (nat_cmp a.id.0 b.id.0)) (ap (nat_cmp a.model.0) (sym is) ∙ tied_itself nat_cmp_total a.model.0)) ∙ less))

not-above : (a b : ℕ) → b ≤ a → nat_lt a b ≡ false
not-above a b low = grind (arith, nat_tests)

above : (a b : ℕ) → a < b → nat_lt a b ≡ true
above a b low = grind (arith, nat_tests)

after-parts : (model : ModelNo) (after : RecId) (e : Entry) → is_after model after e ≡ true → (e.0.model.0 ≡ model.0) × (after.0 < e.0.id.0)
after-parts model after e is = let parts = and_parts (e.0.model.0 == model.0) (nat_lt after.0 e.0.id.0) is in (eqb-true e.0.model.0 model.0 parts.0, ltb-true after.0 e.0.id.0 parts.1)

after-true : (model : ModelNo) (after : RecId) (e : Entry) → e.0.model.0 ≡ model.0 → after.0 < e.0.id.0 → is_after model after e ≡ true
after-true model after e same low = ap (λ (b : Bool). b && nat_lt after.0 e.0.id.0) (eq-eqb e.0.model.0 model.0 same) ∙ above after.0 e.0.id.0 low

after-false : (model : ModelNo) (after : RecId) (e : Entry) → e.0.id.0 ≤ after.0 → is_after model after e ≡ false
after-false model after e low = by (e.0.model.0 == model.0)
  where
    by : (b : Bool) → (b && nat_lt after.0 e.0.id.0) ≡ false
    by true = not-above after.0 e.0.id.0 low
    by false = refl

-- an entry of the model, named as its row
abbrev IsOwn : ModelNo → Entry → Type 0
IsOwn model e = (e.0.model.0 ≡ model.0) × (e.1.id ≡ e.0.id)

rising-entries : (model : ModelNo) (l : List Entry) → AllByRecursion (IsOwn model) l → IsStrictlySortedBy entry_cmp l → EachBefore (λ a b. a.id.0 < b.id.0) (map (λ (e : Entry). e.1) l)
unfolding IsStrictlySortedBy
rising-entries model [] all sorted = tt
rising-entries model (e ∷ l) all sorted = (each l all.1 sorted.0, rising-entries model l all.1 sorted.1)
  where
    each : (others : List Entry) → AllByRecursion (IsOwn model) others → AllByRecursion (λ x. entry_cmp e x ≡ Less) others → AllByRecursion (λ r. e.1.id.0 < r.id.0) (map (λ (x : Entry). x.1) others)
    each [] known less = tt
    each (x ∷ others) known less =
        (subst (λ (id : RecId). e.1.id.0 < id.0) (sym known.0.1) (subst (λ (id : RecId). id.0 < x.0.id.0) (sym all.0.1) (same-model e.0 x.0 (all.0.0 ∙ sym known.0.0) less.0)), each others known.1 less.1)

-- ---- a store

module _ (store : Store) (named : RowsNamed store) where
  es : List Entry
  es = finite.entries store.rows

  entries-sorted : IsStrictlySortedBy entry_cmp (finite.entries store.rows)
  entries-sorted = sorted-unmap (λ (e : Entry). e.0) row_key_cmp (finite.entries store.rows) (keys-from_is_sorted row_key_cmp (finite.entries store.rows) (finite.entries_sorted store.rows))

  -- an entry is found at its key
  found : (e : Entry) → IsOneOf e (finite.entries store.rows) → row_at store e.0.model e.0.id ≡ Some e.1
  found e one = finite.get-entries store.rows e.0 ∙ entry_found row_key_cmp rows_total e (finite.entries store.rows) (finite.entries_sorted store.rows) (one-stands e (finite.entries store.rows) one)

  -- and named as its row
  entry-named : (e : Entry) → IsOneOf e (finite.entries store.rows) → e.1.id ≡ e.0.id
  entry-named e one = known_if (row_at store e.0.model e.0.id) e.1 (λ row. row.id ≡ e.0.id) (found e one) (named e.0.model e.0.id)

  all-named : AllByRecursion (λ e. e.1.id ≡ e.0.id) (finite.entries store.rows)
  all-named = of-each (λ e. e.1.id ≡ e.0.id) (finite.entries store.rows) entry-named

  module _ (model : ModelNo) (after : RecId) where
    -- behind the last of a page stand the others
    pub rows-behind : (front : List KeptRow) (last : KeptRow) (rest : List KeptRow) → rows_after store model after ≡ front ++ last ∷ rest → rows_after store model last.id ≡ rest
    rows-behind front last rest is =
        let (heads, e, tails, split, last_is, rest_is) = map-split (λ (e : Entry). e.1) (filter (is_after model after) (finite.entries store.rows)) front last rest is in
        by heads e tails split last_is rest_is
      where
        by : (heads : List Entry) (e : Entry) (tails : List Entry) → filter (is_after model after) (finite.entries store.rows) ≡ heads ++ e ∷ tails
            → e.1 ≡ last → map (λ (e : Entry). e.1) tails ≡ rest → rows_after store model last.id ≡ rest
        by heads e tails split last_is rest_is =
            let passed = subst (AllByRecursion (λ x. is_after model after x ≡ true)) split (filter-passed (is_after model after) (finite.entries store.rows)) in
            let here = of-one (λ x. is_after model after x ≡ true) (heads ++ e ∷ tails) e passed (one-right e heads (e ∷ tails) (inl refl)) in
            let e_parts = after-parts model after e here in
            let sorted = subst (IsStrictlySortedBy entry_cmp) split (IsStrictlySortedBy-filter entry_cmp (is_after model after) (finite.entries store.rows) entries-sorted) in
            let around = sorted-around entry_cmp heads e tails sorted in
            let e_in = one-filtered (is_after model after) e (finite.entries store.rows) (subst (IsOneOf e) (sym split) (one-right e heads (e ∷ tails) (inl refl))) in
            let id_is : last.id ≡ e.0.id = ap (λ (k : KeptRow). k.id) (sym last_is) ∙ entry-named e e_in.0 in
            ap (λ (id : RecId). rows_after store model id) id_is
            ∙ ap (map (λ (x : Entry). x.1)) (sym (filter-within (is_after model after) (is_after model e.0.id) (λ x is. further x (after-parts model e.0.id x is)) (finite.entries store.rows))
            ∙ ap (filter (is_after model e.0.id)) split
            ∙ filter-behind (is_after model e.0.id) heads e tails
            (weaker (λ x. (is_after model after x ≡ true) × (entry_cmp x e ≡ Less)) (λ x. is_after model e.0.id x ≡ false) (λ x known. before x known.0 known.1) heads
            (both (λ x. is_after model after x ≡ true) (λ x. entry_cmp x e ≡ Less) heads (all-left heads passed) around.0))
            (after-false model e.0.id e (omega arith))
            (weaker (λ x. (is_after model after x ≡ true) × (entry_cmp e x ≡ Less)) (λ x. is_after model e.0.id x ≡ true) (λ x known. behind x known.0 known.1) tails
            (both (λ x. is_after model after x ≡ true) (λ x. entry_cmp e x ≡ Less) tails (all-right heads passed) around.1)))
            ∙ rest_is
          where
            all-left : (xs : List Entry) → AllByRecursion (λ x. is_after model after x ≡ true) (xs ++ e ∷ tails) → AllByRecursion (λ x. is_after model after x ≡ true) xs
            all-left [] all = tt
            all-left (x ∷ xs) all = (all.0, all-left xs all.1)

            all-right : (xs : List Entry) → AllByRecursion (λ x. is_after model after x ≡ true) (xs ++ e ∷ tails) → AllByRecursion (λ x. is_after model after x ≡ true) tails
            all-right [] all = all.1
            all-right (x ∷ xs) all = all-right xs all.1

            e_after : (after.0 < e.0.id.0) × (e.0.model.0 ≡ model.0)
            e_after =
                let passed = subst (AllByRecursion (λ x. is_after model after x ≡ true)) split (filter-passed (is_after model after) (finite.entries store.rows)) in
                let parts = after-parts model after e (of-one (λ x. is_after model after x ≡ true) (heads ++ e ∷ tails) e passed (one-right e heads (e ∷ tails) (inl refl))) in
                (parts.1, parts.0)

            further : (x : Entry) → (x.0.model.0 ≡ model.0) × (e.0.id.0 < x.0.id.0) → is_after model after x ≡ true
            further x parts = after-true model after x parts.0 (lt after.0 e.0.id.0 x.0.id.0 e_after.0 parts.1)
              where
                lt : (a b c : ℕ) → a < b → b < c → a < c
                lt a b c low high = omega arith

            before : (x : Entry) → is_after model after x ≡ true → entry_cmp x e ≡ Less → is_after model e.0.id x ≡ false
            before x pass less = after-false model e.0.id x (le x.0.id.0 e.0.id.0 (same-model x.0 e.0 ((after-parts model after x pass).0 ∙ sym e_after.1) less))
              where
                le : (a b : ℕ) → a < b → a ≤ b
                le a b low = omega arith

            behind : (x : Entry) → is_after model after x ≡ true → entry_cmp e x ≡ Less → is_after model e.0.id x ≡ true
            behind x pass less = let parts = after-parts model after x pass in after-true model e.0.id x parts.0 (same-model e.0 x.0 (e_after.1 ∙ sym parts.0) less)

    -- each of them is there
    pub rows-after-there : (row : KeptRow) → IsOneOf row (rows_after store model after) → row_at store model row.id ≡ Some row
    rows-after-there row one =
        let (e, among, is) = one-unmapped (λ (e : Entry). e.1) row (filter (is_after model after) (finite.entries store.rows)) one in
        let kept = one-filtered (is_after model after) e (finite.entries store.rows) among in
        let parts = after-parts model after e kept.1 in
        let model_is : model ≡ e.0.model = ap (λ (n : ℕ). record { 0 = n }) (sym parts.0) in
        let id_is : row.id ≡ e.0.id = ap (λ (k : KeptRow). k.id) is ∙ entry-named e kept.0 in
        (λ i. row_at store (model_is i) (id_is i)) ∙ found e kept.0 ∙ ap Some (sym is)

    -- and has an id above the one from which they are told
    pub rows-after-above : (row : KeptRow) → IsOneOf row (rows_after store model after) → after.0 < row.id.0
    rows-after-above row one =
        let (e, among, is) = one-unmapped (λ (e : Entry). e.1) row (filter (is_after model after) (finite.entries store.rows)) one in
        let kept = one-filtered (is_after model after) e (finite.entries store.rows) among in
        let id_is : e.0.id ≡ row.id = sym (ap (λ (k : KeptRow). k.id) is ∙ entry-named e kept.0) in
        subst (λ (id : RecId). after.0 < id.0) id_is (after-parts model after e kept.1).1

    -- they rise
    rows-after-rising : EachBefore (λ a b. a.id.0 < b.id.0) (rows_after store model after)
    rows-after-rising =
        rising-entries model (filter (is_after model after) (finite.entries store.rows)) (of-each (IsOwn model) (filter (is_after model after) (finite.entries store.rows)) own)
        (IsStrictlySortedBy-filter entry_cmp (is_after model after) (finite.entries store.rows) entries-sorted)
      where
        own : (e : Entry) → IsOneOf e (filter (is_after model after) (finite.entries store.rows)) → IsOwn model e
        own e among = let kept = one-filtered (is_after model after) e (finite.entries store.rows) among in ((after-parts model after e kept.1).0, entry-named e kept.0)

  find-one : (q : RowKey) (xs : List Entry) (row : KeptRow) → find row_key_cmp q xs ≡ Some row → IsOneOf (q, row) xs
  find-one q [] row is = absurd cc
  find-one q (x ∷ xs) row is = by (is_eq (row_key_cmp q x.0)) refl is (λ later. find-one q xs row later)
    where
      by : (b : Bool) → is_eq (row_key_cmp q x.0) ≡ b → cond b (Some x.1) (find row_key_cmp q xs) ≡ Some row → (find row_key_cmp q xs ≡ Some row → IsOneOf (q, row) xs) → IsOneOf (q, row) (x ∷ xs)
      by true same at rest =
          let key : q ≡ x.0 = tells_apart exact_rows q x.0 same in
          let val : row ≡ x.1 = sym (same_Some x.1 row at) in
          inl (λ i. (key i, val i))
      by false same at rest = inr (rest at)

  module _ (model : ModelNo) where
    -- a row of the model with an id above 0 is one of those above it
    pub row-above : (id : RecId) (row : KeptRow) → row_at store model id ≡ Some row → 0 < id.0 → IsOneOf row (rows_after store model (record { 0 = 0 }))
    row-above id row there low =
        let key : RowKey = record { model = model; id = id } in
        let one = find-one key (finite.entries store.rows) row (sym (finite.get-entries store.rows key) ∙ there) in
        one-mapped (λ (e : Entry). e.1) (key, row) (filter (is_after model (record { 0 = 0 })) (finite.entries store.rows))
        (one-kept (is_after model (record { 0 = 0 })) (key, row) (finite.entries store.rows) one (after-true model (record { 0 = 0 }) (key, row) refl low))

    -- each row of the model is one of them
    pub row-among : (id : RecId) (row : KeptRow) → row_at store model id ≡ Some row → IsOneOf row (rows_of store model)
    row-among id row there = by id.0 refl
      where
        first : RecId
        first = record { 0 = 0 }

        by : (n : ℕ) → id.0 ≡ n → IsOneOf row (rows_of store model)
        by zero is =
            let at : row_at store model (record { 0 = 0 }) ≡ Some row = ap (λ (n : ℕ). row_at store model (record { 0 = n })) (sym is) ∙ there in
            subst (λ (o : Option KeptRow). IsOneOf row (option_map_or (λ r. r ∷ []) o [] ++ rows_after store model (record { 0 = 0 }))) (sym at) (inl refl)
        by (suc n) is = one-right row (option_map_or (λ r. r ∷ []) (row_at store model (record { 0 = 0 })) []) (rows_after store model (record { 0 = 0 })) (row-above id row there (pos id.0 n is))
          where
            pos : (a n : ℕ) → a ≡ suc n → 0 < a
            pos a n is = omega arith

    -- and they are there
    pub rows-there : AllByRecursion (λ row. row_at store model row.id ≡ Some row) (rows_of store model)
    rows-there =
        all-appended (λ row. row_at store model row.id ≡ Some row) (option_map_or (λ r. r ∷ []) (row_at store model (record { 0 = 0 })) []) (rows_after store model (record { 0 = 0 }))
        (first (row_at store model (record { 0 = 0 })) refl) (of-each (λ row. row_at store model row.id ≡ Some row) (rows_after store model (record { 0 = 0 })) (rows-after-there model (record { 0 = 0 })))
      where
        first : (o : Option KeptRow) → row_at store model (record { 0 = 0 }) ≡ o → AllByRecursion (λ row. row_at store model row.id ≡ Some row) (option_map_or (λ r. r ∷ []) o [])
        first None is = tt
        first (Some row) is = (ap (row_at store model) (known_if (row_at store model (record { 0 = 0 })) row (λ r. r.id ≡ record { 0 = 0 }) is (named model (record { 0 = 0 }))) ∙ is, tt)

    -- in their order
    pub rows-rising : EachBefore (λ a b. a.id.0 < b.id.0) (rows_of store model)
    rows-rising = first (row_at store model (record { 0 = 0 })) refl
      where
        first : (o : Option KeptRow) → row_at store model (record { 0 = 0 }) ≡ o → EachBefore (λ a b. a.id.0 < b.id.0) (option_map_or (λ r. r ∷ []) o [] ++ rows_after store model (record { 0 = 0 }))
        first None is = rows-after-rising model (record { 0 = 0 })
        first (Some row) is =
            let id_is = known_if (row_at store model (record { 0 = 0 })) row (λ r. r.id ≡ record { 0 = 0 }) is (named model (record { 0 = 0 })) in (
              of-each (λ r. row.id.0 < r.id.0) (rows_after store model (record { 0 = 0 }))
                  (λ r one. subst (λ (id : RecId). id.0 < r.id.0) (sym id_is) (rows-after-above model (record { 0 = 0 }) r one)),
              rows-after-rising model (record { 0 = 0 }),
            )
