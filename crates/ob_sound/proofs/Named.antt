-- The list of the rows that name a row has each row that does, and lists that rise are equal where they have the same members.
use Rattle.std.proofs.Common.{◌≡◌, ◌<◌, ◌==◌, inl, inr, Bool, true, false, cond, List, [], ◌∷◌, map, filter, Some, refl, sym, ap, subst, ◌∙◌, arith, eq-eqb}
use Rattle.std.specs.Prelude.{Contains}
use Rattle.std.specs.List.{AllByRecursion}
use Rattle.std.specs.List.Sorted.{IsStrictlySortedBy}
use Rattle.std.specs.Ordering.{is_eq}
use Rattle.std.specs.declared.cmp.Ordering.TheVariants.{Less}
use Rattle.std.specs.FinMap as finite
use Rattle.std.specs.FinMap.Entries.{find}
use Rattle.std.proofs.lemmas.Cmp.{ranked}
use Rattle.std.proofs.lemmas.Map.Keys.{sorted_head, sorted_tail}
use Rattle.std.proofs.lemmas.Map.Views.{tells_apart}
use Rattle.std.proofs.lemmas.Option.{same_Some}
use Rattle.ob_base.specs.Ids.{row_key_cmp}
use Rattle.ob_base.specs.declared.id.FieldNo.{FieldNo}
use Rattle.ob_base.specs.declared.id.ModelNo.{ModelNo}
use Rattle.ob_base.specs.declared.id.RecId.{RecId}
use Rattle.ob_base.specs.declared.id.RowKey.{RowKey}
use Rattle.ob_expr.specs.Reads.{IsAmong}
use Rattle.ob_schema.proofs.CallerLemmas.{contains-first, contains-later}
use Rattle.ob_schema.specs.Links.{Sides}
use Rattle.ob_schema.specs.Plain.{names, naming}
use Rattle.ob_schema.specs.Tables.{PlainRow, Tables, key_of, kept_in, row_at, rows_in}
use Rattle.ob_sound.specs.Lists.{IsNamedAlike, NamesBy}
use Rattle.ob_tables.proofs.CallerLemmas.{Stands, exact_rows, id_cmp, naming-rises, naming-there, tell_and, told_and}

-- ---- members

stands-mapped : {X Y : Type 0} (f : X → Y) (x : X) (xs : List X) → Stands x xs → Stands (f x) (map f xs)
stands-mapped f x [] among = absurd among
stands-mapped f x (y ∷ ys) (inl is) = inl (ap f is)
stands-mapped f x (y ∷ ys) (inr later) = inr (stands-mapped f x ys later)

-- one that passes a test is kept
stands-kept : {X : Type 0} (test : X → Bool) (x : X) (xs : List X) → test x ≡ true → Stands x xs → Stands x (filter test xs)
stands-kept test x [] passes among = absurd among
stands-kept {X = X} test x (y ∷ ys) passes among = by (test y) refl among (λ later. stands-kept test x ys passes later)
  where
    by : (b : Bool) → test y ≡ b → Stands x (y ∷ ys) → (Stands x ys → Stands x (filter test ys)) → Stands x (cond b (y ∷ filter test ys) (filter test ys))
    by true is (inl same) rest = inl same
    by true is (inr later) rest = inr (rest later)
    by false not (inl same) rest = let both : true ≡ false = sym passes ∙ ap test same ∙ not in cc
    by false not (inr later) rest = rest later

found-stands : (q : RowKey) (es : List (RowKey × PlainRow)) (row : PlainRow) → find row_key_cmp q es ≡ Some row → Stands (q, row) es
found-stands q [] row e = cc
found-stands q (x ∷ es) row e = by (is_eq (row_key_cmp q x.0)) refl e (λ is. found-stands q es row is)
  where
    by : (b : Bool) → is_eq (row_key_cmp q x.0) ≡ b → cond b (Some x.1) (find row_key_cmp q es) ≡ Some row → (find row_key_cmp q es ≡ Some row → Stands (q, row) es) → Stands (q, row) (x ∷ es)
    by true same is again =
        let key : q ≡ x.0 = tells_apart exact_rows q x.0 same in
        let val : x.1 ≡ row = same_Some x.1 row is in
        inl (λ i. (key i, sym val i))
    by false same is again = inr (again is)

among-stands : (id : RecId) (ids : List RecId) → Stands id ids → IsAmong id ids
among-stands id [] among = among
among-stands id (x ∷ ids) (inl is) = inl is
among-stands id (x ∷ ids) (inr later) = inr (among-stands id ids later)

pub contains-stands : {X : Type 0} (x : X) (xs : List X) → Stands x xs → Contains xs x
contains-stands x [] among = absurd among
contains-stands {X = X} x (y ∷ ys) (inl is) = subst (λ (z : X). Contains (y ∷ ys) z) (sym is) (contains-first y ys)
contains-stands x (y ∷ ys) (inr later) = contains-later y ys x (contains-stands x ys later)

-- ---- lists that rise

above-all : (x : RecId) (xs : List RecId) → AllByRecursion (λ y. id_cmp x y ≡ Less) xs → (z : RecId) → Stands z xs → x.0 < z.0
above-all x [] above z among = absurd among
above-all x (y ∷ ys) above z (inl is) = subst (λ (w : RecId). x.0 < w.0) (sym is) (ranked x.0 y.0 Less (sym above.0))
above-all x (y ∷ ys) above z (inr later) = above-all x ys above.1 z later

-- the first is one where each list has the other's
same_first : (x y : RecId) (xs ys : List RecId) → ((z : RecId) → Stands z xs → x.0 < z.0) → ((z : RecId) → Stands z ys → y.0 < z.0) → Stands x (y ∷ ys) → Stands y (x ∷ xs) → x ≡ y
same_first x y xs ys low high (inl is) in_first = is
same_first x y xs ys low high (inr later) (inl is) = sym is
same_first x y xs ys low high (inr later) (inr again) = let a = high x later in let b = low y again in absurd (omega (arith, a, b))

-- what stands in the other list behind an equal first one stands behind its first
behind_first : (x y z : RecId) (ys : List RecId) → x ≡ y → x.0 < z.0 → Stands z (y ∷ ys) → Stands z ys
behind_first x y z ys first low (inl is) = let same : z.0 ≡ x.0 = ap (λ (i : RecId). i.0) (is ∙ sym first) in absurd (omega (arith, same, low))
behind_first x y z ys first low (inr later) = later

rise_once : (xs ys : List RecId) → IsStrictlySortedBy id_cmp xs → IsStrictlySortedBy id_cmp ys → ((z : RecId) → Stands z xs → Stands z ys) → ((z : RecId) → Stands z ys → Stands z xs) → xs ≡ ys
rise_once [] [] r s to from = refl
rise_once [] (y ∷ ys) r s to from = absurd (from y (inl refl))
rise_once (x ∷ xs) [] r s to from = absurd (to x (inl refl))
rise_once (x ∷ xs) (y ∷ ys) r s to from =
    let low = above-all x xs (sorted_head id_cmp x xs r) in
    let high = above-all y ys (sorted_head id_cmp y ys s) in
    let first : x ≡ y = same_first x y xs ys low high (to x (inl refl)) (from y (inl refl)) in
    let rest : xs ≡ ys = rise_once xs ys (sorted_tail id_cmp x xs r) (sorted_tail id_cmp y ys s)
    (λ z among. behind_first x y z ys first (low z among) (to z (inr among))) (λ z among. behind_first y x z xs (sym first) (high z among) (from z (inr among))) in
    λ i. first i ∷ rest i

-- ---- who names a row

-- a row that names it is in the list
pub naming-has : (tables : Tables) (model : ModelNo) (field : FieldNo) (id child : RecId) → NamesBy tables model field id child → Stands child (naming tables model field id)
naming-has tables model field id child named =
    let row = told_and (row_at tables model child) (λ row. names id (kept_in row field) ≡ true) named in
    let es = finite.entries tables.rows in
    let found = found-stands (key_of model child) es row.0 (sym (finite.get-entries tables.rows (key_of model child)) ∙ row.1) in
    let kept = stands-kept (λ (e : RowKey × PlainRow). e.0.model.0 == model.0) (key_of model child, row.0) es (eq-eqb model.0 model.0 refl) found in
    let there = stands-mapped (λ (e : RowKey × PlainRow). (e.0.id, e.1)) (key_of model child, row.0) (filter (λ (e : RowKey × PlainRow). e.0.model.0 == model.0) es) kept in
    stands-mapped (λ (e : RecId × PlainRow). e.0) (child, row.0) (filter (λ (e : RecId × PlainRow). names id (kept_in e.1 field)) (rows_in tables model))
    (stands-kept (λ (e : RecId × PlainRow). names id (kept_in e.1 field)) (child, row.0) (rows_in tables model) row.2 there)

-- and one in the list names it
naming-is : (tables : Tables) (model : ModelNo) (field : FieldNo) (id child : RecId) → Stands child (naming tables model field id) → NamesBy tables model field id child
naming-is tables model field id child among =
    let row = naming-there tables model field id child (among-stands child (naming tables model field id) among) in
    tell_and (row_at tables model child) row.0 (λ row. names id (kept_in row field) ≡ true) row.1 row.2

-- the lists of both sides are one where the same rows name it
pub same_naming : (sides : Sides) (model : ModelNo) (field : FieldNo) (id : RecId) → IsNamedAlike sides model field id → naming sides.before model field id ≡ naming sides.behind model field id
same_naming sides model field id alike =
    rise_once (naming sides.before model field id) (naming sides.behind model field id) (naming-rises sides.before model field id) (naming-rises sides.behind model field id)
    (λ child among. naming-has sides.behind model field id child ((alike child).0 (naming-is sides.before model field id child among)))
    (λ child among. naming-has sides.before model field id child ((alike child).1 (naming-is sides.behind model field id child among)))
