-- The list of the rows that name a row has each row that does, and no other; and such lists are one where the same rows do.
use Rattle.std.proofs.Common.{◌≡◌, ◌<◌, ◌⊎◌, inl, inr, Bool, true, false, cond, List, [], ◌∷◌, filter, Some, refl, sym, ap, subst, ◌∙◌, arith}
use Rattle.std.specs.Prelude.{Contains}
use Rattle.std.specs.List.{AllByRecursion}
use Rattle.std.specs.List.Sorted.{IsStrictlySortedBy}
use Rattle.std.specs.declared.cmp.Ordering.TheVariants.{Less}
use Rattle.std.proofs.lemmas.Cmp.{ranked}
use Rattle.std.proofs.lemmas.Map.Keys.{sorted_head, sorted_tail}
use Rattle.std.proofs.lemmas.Option.{get_or_from_slice_get, same_Some, slice_get_within}
use Rattle.ob_base.specs.declared.id.FieldNo.{FieldNo}
use Rattle.ob_base.specs.declared.id.ModelNo.{ModelNo}
use Rattle.ob_base.specs.declared.id.RecId.{RecId}
use Rattle.ob_expr.specs.Reads.{IsAmong}
use Rattle.ob_schema.proofs.CallerLemmas.{contains-cases, contains-first, contains-later, contains-map, contains-mapped, contains-none}
use Rattle.ob_schema.specs.Links.{Sides}
use Rattle.ob_schema.specs.Plain.{names, naming}
use Rattle.ob_schema.specs.Tables.{PlainRow, Tables, ids_in, kept_in, row_at, rows_in}
use Rattle.ob_sound.specs.Lists.{IsNamedAlike, NamesBy}
use Rattle.ob_tables.proofs.CallerLemmas.{HasAt, Stands, id_cmp, naming-rises, naming-there, rows_in-there, tell_and, there-ids, there_is, told_and}

-- ---- members

-- what has a place in a list is one of it
pub placed-among : {X : Type 0} (xs : List X) (x : X) → HasAt xs x → Contains xs x
placed-among xs x (k, is) = (k, slice_get_within xs k x is, get_or_from_slice_get xs k x x is)

among-stands : {X : Type 0} (xs : List X) (x : X) → Contains xs x → Stands x xs
among-stands [] x among = absurd (contains-none x among)
among-stands (y ∷ ys) x among = elim (contains-cases y ys x among) [ inl is ↦ inl (sym is) | inr later ↦ inr (among-stands ys x later) ]

among-ids : (ids : List RecId) (id : RecId) → Contains ids id → IsAmong id ids
among-ids [] id among = absurd (contains-none id among)
among-ids (x ∷ ids) id among = elim (contains-cases x ids id among) [ inl is ↦ inl (sym is) | inr later ↦ inr (among-ids ids id later) ]

-- one that passes a test is kept
contains-kept : {X : Type 0} (test : X → Bool) (xs : List X) (x : X) → Contains xs x → test x ≡ true → Contains (filter test xs) x
contains-kept test [] x among passes = absurd (contains-none x among)
contains-kept {X = X} test (y ∷ ys) x among passes = by (test y) refl (contains-cases y ys x among) (λ later. contains-kept test ys x later passes)
  where
    by : (b : Bool) → test y ≡ b → (y ≡ x) ⊎ Contains ys x → (Contains ys x → Contains (filter test ys) x) → Contains (cond b (y ∷ filter test ys) (filter test ys)) x
    by true is (inl same) rest = subst (λ (z : X). Contains (y ∷ filter test ys) z) same (contains-first y (filter test ys))
    by true is (inr later) rest = contains-later y (filter test ys) x (rest later)
    by false fails (inl same) rest = let both : true ≡ false = sym passes ∙ sym (ap test same) ∙ fails in absurd cc
    by false fails (inr later) rest = rest later

-- ---- lists that rise

above-all : (x : RecId) (xs : List RecId) → AllByRecursion (λ y. id_cmp x y ≡ Less) xs → (z : RecId) → Contains xs z → x.0 < z.0
above-all x [] above z among = absurd (contains-none z among)
above-all x (y ∷ ys) above z among = elim (contains-cases y ys z among) [
  | inl is ↦ subst (λ (w : RecId). x.0 < w.0) is (ranked x.0 y.0 Less (sym above.0))
  | inr later ↦ above-all x ys above.1 z later
]

-- the first is one where each list has the other's
same_first : (x y : RecId) (xs ys : List RecId) → ((z : RecId) → Contains xs z → x.0 < z.0) → ((z : RecId) → Contains ys z → y.0 < z.0) → Contains (y ∷ ys) x → Contains (x ∷ xs) y → x ≡ y
same_first x y xs ys low high in_second in_first = by (contains-cases y ys x in_second) (contains-cases x xs y in_first)
  where
    by : (y ≡ x) ⊎ Contains ys x → (x ≡ y) ⊎ Contains xs y → x ≡ y
    by (inl is) other = sym is
    by (inr later) (inl is) = is
    by (inr later) (inr again) = let a = low y again in let b = high x later in absurd (omega (arith, a, b))

-- what stands in the other list behind an equal first one stands behind its first
behind_first : (x y z : RecId) (ys : List RecId) → x ≡ y → x.0 < z.0 → Contains (y ∷ ys) z → Contains ys z
behind_first x y z ys first low among = elim (contains-cases y ys z among) [
  | inl is ↦ (let same : x.0 ≡ z.0 = ap (λ (i : RecId). i.0) (first ∙ is) in absurd (omega (arith, same, low)))
  | inr later ↦ later
]

rise_once : (xs ys : List RecId) → IsStrictlySortedBy id_cmp xs → IsStrictlySortedBy id_cmp ys → ((z : RecId) → Contains xs z → Contains ys z) → ((z : RecId) → Contains ys z → Contains xs z) → xs ≡ ys
rise_once [] [] r s to from = refl
rise_once [] (y ∷ ys) r s to from = absurd (contains-none y (from y (contains-first y ys)))
rise_once (x ∷ xs) [] r s to from = absurd (contains-none x (to x (contains-first x xs)))
rise_once (x ∷ xs) (y ∷ ys) r s to from =
    let low = above-all x xs (sorted_head id_cmp x xs r) in
    let high = above-all y ys (sorted_head id_cmp y ys s) in
    let first : x ≡ y = same_first x y xs ys low high (to x (contains-first x xs)) (from y (contains-first y ys)) in
    let rest : xs ≡ ys = rise_once xs ys (sorted_tail id_cmp x xs r) (sorted_tail id_cmp y ys s)
    (λ z among. behind_first x y z ys first (low z among) (to z (contains-later x xs z among))) (λ z among. behind_first y x z xs (sym first) (high z among) (from z (contains-later y ys z among))) in
    λ i. first i ∷ rest i

-- ---- who names a row

module _ (tables : Tables) (model : ModelNo) where
  -- a row that is there is one of its model's
  listed : (id : RecId) (row : PlainRow) → row_at tables model id ≡ Some row → (entry : RecId × PlainRow) × Contains (rows_in tables model) entry × (entry.0 ≡ id) × (entry.1 ≡ row)
  listed id row there =
      let placed = there-ids tables model id (there_is (row_at tables model id) row there) in
      let entry = contains-map (λ (e : RecId × PlainRow). e.0) (rows_in tables model) id (placed-among (ids_in tables model) id placed) in
      let found = rows_in-there tables model entry.0 (among-stands (rows_in tables model) entry.0 entry.1) in
      (entry.0, entry.1, entry.2, same_Some entry.0.1 row (sym found ∙ ap (row_at tables model) entry.2 ∙ there))

  -- a row that names another is in the list of that one
  pub naming-has : (field : FieldNo) (id child : RecId) → NamesBy tables model field id child → Contains (naming tables model field id) child
  naming-has field id child named =
      let row = told_and (row_at tables model child) (λ row. names id (kept_in row field) ≡ true) named in
      let entry = listed child row.0 row.1 in
      let test = λ (e : RecId × PlainRow). names id (kept_in e.1 field) in
      let passes : test entry.0 ≡ true = ap (λ (r : PlainRow). names id (kept_in r field)) entry.3 ∙ row.2 in
      subst (λ (i : RecId). Contains (naming tables model field id) i) entry.2
      (contains-mapped (λ (e : RecId × PlainRow). e.0) (filter test (rows_in tables model)) entry.0 (contains-kept test (rows_in tables model) entry.0 entry.1 passes))

  -- and one in the list names it
  pub naming-is : (field : FieldNo) (id child : RecId) → Contains (naming tables model field id) child → NamesBy tables model field id child
  naming-is field id child among =
      let row = naming-there tables model field id child (among-ids (naming tables model field id) child among) in
      tell_and (row_at tables model child) row.0 (λ row. names id (kept_in row field) ≡ true) row.1 row.2

-- the lists of both sides are one where the same rows name it
pub same_naming : (sides : Sides) (model : ModelNo) (field : FieldNo) (id : RecId) → IsNamedAlike sides model field id → naming sides.before model field id ≡ naming sides.behind model field id
same_naming sides model field id alike =
    rise_once (naming sides.before model field id) (naming sides.behind model field id) (naming-rises sides.before model field id) (naming-rises sides.behind model field id)
    (λ child among. naming-has sides.behind model field id child ((alike child).0 (naming-is sides.before model field id child among)))
    (λ child among. naming-has sides.before model field id child ((alike child).1 (naming-is sides.behind model field id child among)))
