-- A list that rises, as what is below an id and what is above it: the id may be left out, and put in.
use Rattle.std.proofs.Common.{◌≡◌, ◌≢◌, ◌<◌, ◌⊎◌, inl, inr, ◌≤◌, ◌+◌, ℕ, true, false, ltb, suc, List, [], ◌∷◌, ◌++◌, map, take, drop, length, get_or, sym, ap, subst, ◌∙◌, arith}
use Rattle.std.specs.declared.cmp.Ordering.TheVariants.{Less}
use Rattle.std.specs.Cmp.{nat_cmp_is}
use Rattle.std.specs.Prelude.{◌↔◌, All, Contains}
use Rattle.std.specs.List.{AllByRecursion, AllWithin}
use Rattle.std.specs.List.Sorted.{IsNonDecreasingBy, IsStrictlySortedBy}
use Rattle.std.proofs.lemmas.List.Elements.{All-cons, All-contains, All-head, All-weaker, Contains-append_cases, Contains-append_left, Contains-append_right, Contains-push, Contains-push_cases, recursion_from_All}
use Rattle.std.proofs.lemmas.List.{append_assoc, get_or-drop, get_or-map, get_or-take, length-drop, length-map, length-take-le}
use Rattle.std.proofs.lemmas.Map.Keys.{non_decreasing_from_sorted, sorted_tail, sorted_from_strictly_increasing}
use Rattle.std.proofs.lemmas.Map.Views.{All-after_first}
use Rattle.std.proofs.lemmas.Bool.{ltb-false, ltb-true}
use Rattle.std.proofs.lemmas.Cmp.{ranked}
use Rattle.std.proofs.Math.Seq.{split_at}
use Rattle.ob_base.specs.declared.id.RecId.{RecId}
use Rattle.ob_base.specs.Rising.{IsRising}
use Rattle.ob_io.proofs.CallerLemmas.{below-next, id_cmp, rising-from_sorted, sorted-from_rising}

abbrev pub named : RecId → ℕ
named id = id.0

abbrev pub IsBelow : RecId → RecId → Type 0
IsBelow id other = other.0 < id.0

abbrev pub IsAbove : RecId → RecId → Type 0
IsAbove id other = id.0 < other.0

-- ---- one element in the middle

module _ {X : Type 0} (P : X → Type 0) where
  all-without : (xs : List X) (x : X) (ys : List X) → AllByRecursion P (xs ++ x ∷ ys) → AllByRecursion P (xs ++ ys)
  all-without [] x ys all = all.1
  all-without (a ∷ xs) x ys all = (all.0, all-without xs x ys all.1)

  all-with : (xs : List X) (x : X) (ys : List X) → P x → AllByRecursion P (xs ++ ys) → AllByRecursion P (xs ++ x ∷ ys)
  all-with [] x ys here all = (here, all)
  all-with (a ∷ xs) x ys here all = (all.0, all-with xs x ys here all.1)

  all-first : (xs ys : List X) → AllByRecursion P (xs ++ ys) → AllByRecursion P xs
  all-first [] ys all = tt
  all-first (a ∷ xs) ys all = (all.0, all-first xs ys all.1)

abbrev AreSorted : List RecId → Type 0
AreSorted ids = IsStrictlySortedBy id_cmp ids

sorted-first : (xs ys : List RecId) → AreSorted (xs ++ ys) → AreSorted xs
unfolding IsStrictlySortedBy
sorted-first [] ys sorted = tt
sorted-first (a ∷ xs) ys sorted = (all-first (λ y. id_cmp a y ≡ Less) xs ys sorted.0, sorted-first xs ys sorted.1)

sorted-without : (xs : List RecId) (x : RecId) (ys : List RecId) → AreSorted (xs ++ x ∷ ys) → AreSorted (xs ++ ys)
unfolding IsStrictlySortedBy
sorted-without [] x ys sorted = sorted.1
sorted-without (a ∷ xs) x ys sorted = (all-without (λ y. id_cmp a y ≡ Less) xs x ys sorted.0, sorted-without xs x ys sorted.1)

sorted-with : (xs : List RecId) (x : RecId) (ys : List RecId) → AllByRecursion (λ a. id_cmp a x ≡ Less) xs
    → AllByRecursion (λ y. id_cmp x y ≡ Less) ys → AreSorted (xs ++ ys) → AreSorted (xs ++ x ∷ ys)
unfolding IsStrictlySortedBy
sorted-with [] x ys low high sorted = (high, sorted)
sorted-with (a ∷ xs) x ys low high sorted = (all-with (λ y. id_cmp a y ≡ Less) xs x ys low.0 sorted.0, sorted-with xs x ys low.1 high sorted.1)

sorted-behind : (xs : List RecId) (x : RecId) (ys : List RecId) → AreSorted (xs ++ x ∷ ys) → All (λ y. id_cmp x y ≡ Less) ys
sorted-behind [] x ys sorted = All-after_first id_cmp x ys sorted
sorted-behind (a ∷ xs) x ys sorted = sorted-behind xs x ys (sorted_tail id_cmp a (xs ++ x ∷ ys) sorted)

has-here : (xs : List RecId) (x : RecId) (ys : List RecId) → Contains (xs ++ x ∷ ys) x
has-here xs x ys = subst (λ (l : List RecId). Contains l x) (append_assoc xs (x ∷ []) ys) (Contains-append_left (xs ++ x ∷ []) ys x (Contains-push xs x))

has-other : (xs : List RecId) (x : RecId) (ys : List RecId) (other : RecId) → Contains (xs ++ ys) other → Contains (xs ++ x ∷ ys) other
has-other xs x ys other has = elim (Contains-append_cases xs ys other has) [
  | inl before ↦ Contains-append_left xs (x ∷ ys) other before
  | inr behind ↦ Contains-append_right xs (x ∷ ys) other (Contains-append_right (x ∷ []) ys other behind)
]

has-cases : (xs : List RecId) (x : RecId) (ys : List RecId) (other : RecId) → Contains (xs ++ x ∷ ys) other → Contains (xs ++ ys) other ⊎ (other ≡ x)
has-cases xs x ys other has = elim (Contains-append_cases (xs ++ x ∷ []) ys other again) [
  | inl upto ↦ elim (Contains-push_cases xs x other upto) [
    | inl before ↦ inl (Contains-append_left xs ys other before)
    | inr here ↦ inr (sym here)
  ]
  | inr behind ↦ inl (Contains-append_right xs ys other behind)
]
  where
    again : Contains ((xs ++ x ∷ []) ++ ys) other
    again = subst (λ (l : List RecId). Contains l other) (sym (append_assoc xs (x ∷ []) ys)) has

-- ---- a list around an id

-- what of a list is below an id, and what is above it
pub record IsAround (ids below above : List RecId) (id : RecId) : Type 0 where
  pub rises : IsRising ids
  pub low : All (IsBelow id) below
  pub high : All (IsAbove id) above
  pub all : (ids ≡ below ++ above) ⊎ (ids ≡ below ++ id ∷ above)

module _ (ids below above : List RecId) (id : RecId) (around : IsAround ids below above id) where
  as-without : AreSorted (below ++ above)
  as-without = elim around.all [
    | inl apart ↦ sorted-from_rising (below ++ above) (subst IsRising apart around.rises)
    | inr among ↦ sorted-without below id above (sorted-from_rising (below ++ id ∷ above) (subst IsRising among around.rises))
  ]

  pub rises-below : IsRising below
  rises-below = rising-from_sorted below (sorted-first below above as-without)

  pub rises-without : IsRising (below ++ above)
  rises-without = rising-from_sorted (below ++ above) as-without

  pub rises-with : IsRising (below ++ id ∷ above)
  rises-with = rising-from_sorted (below ++ id ∷ above) (sorted-with below id above under over as-without)
    where
      under : AllByRecursion (λ (other : RecId). id_cmp other id ≡ Less) below
      under = recursion_from_All (λ (other : RecId). id_cmp other id ≡ Less) below
          (All-weaker (IsBelow id) (λ other. id_cmp other id ≡ Less) (λ other less. sym (nat_cmp_is other.0 id.0 Less less)) below around.low)

      over : AllByRecursion (λ (other : RecId). id_cmp id other ≡ Less) above
      over = recursion_from_All (λ (other : RecId). id_cmp id other ≡ Less) above
          (All-weaker (IsAbove id) (λ other. id_cmp id other ≡ Less) (λ other less. sym (nat_cmp_is id.0 other.0 Less less)) above around.high)

  -- neither part has the id
  differs : (other : RecId) → Contains (below ++ above) other → other ≢ id
  differs other has same = elim (Contains-append_cases below above other has) [
    | inl there ↦ absurd (let less : other.0 < id.0 = All-contains (IsBelow id) below other around.low there in omega (arith, ap named same))
    | inr there ↦ absurd (let less : id.0 < other.0 = All-contains (IsAbove id) above other around.high there in omega (arith, ap named same))
  ]

  from-parts : (other : RecId) → Contains (below ++ above) other → Contains ids other
  from-parts other has = elim around.all [
    | inl apart ↦ subst (λ (l : List RecId). Contains l other) (sym apart) has
    | inr among ↦ subst (λ (l : List RecId). Contains l other) (sym among) (has-other below id above other has)
  ]

  to-parts : (other : RecId) → Contains ids other → Contains (below ++ above) other ⊎ (other ≡ id)
  to-parts other has = elim around.all [
    | inl apart ↦ inl (subst (λ (l : List RecId). Contains l other) apart has)
    | inr among ↦ has-cases below id above other (subst (λ (l : List RecId). Contains l other) among has)
  ]

  pub has-without : (other : RecId) → Contains (below ++ above) other ↔ (Contains ids other × (other ≢ id))
  has-without other = (λ has. (from-parts other has, differs other has), λ both. elim (to-parts other both.0) [ inl has ↦ has | inr same ↦ absurd (both.1 same) ])

  pub has-with : (other : RecId) → Contains (below ++ id ∷ above) other ↔ (Contains ids other ⊎ (other ≡ id))
  has-with other = (to, from)
    where
      here : other ≡ id → Contains (below ++ id ∷ above) other
      here same = subst (Contains (below ++ id ∷ above)) (sym same) (has-here below id above)

      to : Contains (below ++ id ∷ above) other → Contains ids other ⊎ (other ≡ id)
      to has = elim (has-cases below id above other has) [ inl there ↦ inl (from-parts other there) | inr same ↦ inr same ]

      from : Contains ids other ⊎ (other ≡ id) → Contains (below ++ id ∷ above) other
      from (inl has) = elim (to-parts other has) [ inl there ↦ has-other below id above other there | inr same ↦ here same ]
      from (inr same) = here same

-- an id behind what is below it, and then what is above it
pub joined : (below above upto : List RecId) (id : RecId) → upto ≡ below ++ id ∷ [] → upto ++ above ≡ below ++ id ∷ above
joined below above upto id is = ap (λ (l : List RecId). l ++ above) is ∙ append_assoc below (id ∷ []) above

-- an id that is put at the end is the one that is more
pub has-at_end : (ids : List RecId) (id other : RecId) → Contains (ids ++ id ∷ []) other ↔ (Contains ids other ⊎ (other ≡ id))
has-at_end ids id other = (to, from)
  where
    to : Contains (ids ++ id ∷ []) other → Contains ids other ⊎ (other ≡ id)
    to has = elim (Contains-push_cases ids id other has) [ inl before ↦ inl before | inr same ↦ inr (sym same) ]

    from : Contains ids other ⊎ (other ≡ id) → Contains (ids ++ id ∷ []) other
    from (inl has) = Contains-append_left ids (id ∷ []) other has
    from (inr same) = subst (Contains (ids ++ id ∷ [])) (sym same) (Contains-push ids id)

-- ---- ids that are put behind a list

-- what stands before one of them is below it
pub below-here : (list ids now : List RecId) (i : ℕ) (d : RecId) → IsRising (list ++ ids) → i < length ids → now ≡ list ++ take i ids → All (IsBelow (get_or ids i d)) now
below-here list ids now i d rises there is = subst (All (IsBelow here)) (sym is) (below-next (list ++ take i ids) here rest (sorted-from_rising ((list ++ take i ids) ++ here ∷ rest) (subst IsRising parts rises)))
  where
    here : RecId
    here = get_or ids i d

    rest : List RecId
    rest = drop (suc i) ids

    parts : list ++ ids ≡ (list ++ take i ids) ++ here ∷ rest
    parts = ap (λ (l : List RecId). list ++ l) (split_at ids i d there) ∙ sym (append_assoc list (take i ids) (here ∷ rest))

-- ---- the place of an id

-- numbers that rise don't fall, as a binary search asks
pub not_falling : (ids : List RecId) → IsRising ids → IsNonDecreasingBy named ids
not_falling ids rises = λ i j d most there.
    let inside : j < length (map named ids) = omega (arith, length-map ids named) in
    let at = λ (k : ℕ) (inside : k < length ids). get_or-map named ids k d d.0 inside in
    let sorted = sorted_from_strictly_increasing (map named ids) rises in
    rw (at i (omega arith), at j there) at (non_decreasing_from_sorted (map named ids) sorted i j d.0 most inside)

module _ (ids : List RecId) (id : RecId) (place : ℕ) where
  pub first-below : place ≤ length ids → AllWithin (λ (other : RecId). ltb other.0 id.0 ≡ true) ids 0 place → All (IsBelow id) (take place ids)
  first-below bound all = λ k d h.
      let there : k < place = omega (arith, length-take-le place ids bound) in
      rw (get_or-take place ids k d there) (ltb-true (get_or ids k d).0 id.0 (all k d (omega arith) there))

  pub none-below : AllWithin (λ (other : RecId). ltb other.0 id.0 ≡ false) ids place (length ids) → All (λ other. id.0 ≤ other.0) (drop place ids)
  none-below all = λ k d h.
      let there : place + k < length ids = omega (arith, length-drop place ids) in
      rw (get_or-drop place ids k d) (ltb-false (get_or ids (place + k) d).0 id.0 (all (place + k) d (omega arith) there))

-- what stands behind an id is above it
pub over : (ids below above : List RecId) (id : RecId) → IsRising ids → ids ≡ below ++ id ∷ above → All (IsAbove id) above
over ids below above id rises are = All-weaker (λ (other : RecId). id_cmp id other ≡ Less) (IsAbove id) (λ other less. ranked id.0 other.0 Less (sym less)) above behind
  where
    behind : All (λ (other : RecId). id_cmp id other ≡ Less) above
    behind = sorted-behind below id above (sorted-from_rising (below ++ id ∷ above) (subst IsRising are rises))

-- what is at an id or above it is above it where its first isn't the id
pub over-all : (ids below rest above : List RecId) (first id : RecId) → IsRising ids → ids ≡ below ++ rest → rest ≡ first ∷ above
    → All (λ other. id.0 ≤ other.0) rest → first.0 ≢ id.0 → All (IsAbove id) rest
over-all ids below rest above first id rises are begins least other =
    let at_least : id.0 ≤ first.0 = All-head (λ (o : RecId). id.0 ≤ o.0) first above (subst (All (λ (o : RecId). id.0 ≤ o.0)) begins least) in
    let less : id.0 < first.0 = omega (arith, other) in
    let behind = over ids below above first rises (are ∙ ap (λ (l : List RecId). below ++ l) begins) in
    subst (All (IsAbove id)) (sym begins) (All-cons (IsAbove id) first above less (All-weaker (IsAbove first) (IsAbove id) (λ o more. omega arith) above behind))
