-- Ids of rows as a list that rises.
use Rattle.std.proofs.Common.{◌≡◌, ◌<◌, ◌++◌, ◌∷◌, [], ℕ, List, fold, length, map, refl, slice_index, sym, ap, subst, get_or, length-append, arith, Ordering, Less, Equal, Greater}
use Rattle.std.specs.Prelude.{All}
use Rattle.std.specs.BTreeSet.{insert_key}
use Rattle.std.specs.Cmp.{nat_cmp_is}
use Rattle.std.specs.List.{AllByRecursion}
use Rattle.std.specs.List.Sorted.{IsStrictlyIncreasing, IsStrictlySortedBy}
use Rattle.std.specs.Ordering.{match_ordering, nat_cmp}
use Rattle.std.proofs.lemmas.Cmp.{ranked}
use Rattle.std.proofs.lemmas.List.{get_or-map, get_or_append_left, get_or_at, length-map}
use Rattle.std.proofs.lemmas.List.Elements.{All-from_get_or, All-get_or}
use Rattle.std.proofs.lemmas.Map.Keys.{IsStrictlyIncreasing-from_sorted, below_from_sorted}
use Rattle.ob_base.specs.Rising.{IsRising}
use Rattle.ob_base.specs.declared.id.RecId.{RecId}
use Rattle.ob_install.specs.Install.{ids_among}

-- ids by their numbers
abbrev pub numbers : List RecId → List ℕ
numbers ids = map (λ id. id.0) ids

abbrev pub named : List ℕ → List RecId
named ns = map (λ n. record { 0 = n }) ns

pub named-numbers : (ids : List RecId) → named (numbers ids) ≡ ids
named-numbers [] = refl
named-numbers (id ∷ ids) = ap (λ (more : List RecId). id ∷ more) (named-numbers ids)

-- what stands before a number in a list that rises is below it
below-next : (xs : List ℕ) (x : ℕ) (ys : List ℕ) → IsStrictlySortedBy nat_cmp (xs ++ x ∷ ys) → All (λ b. b < x) xs
below-next xs x ys h =
    All-from_get_or (λ b. b < x) xs 0
    (λ i lt.
    let own = get_or_append_left xs (x ∷ ys) 0 i lt in
    let next = get_or_at xs x ys 0 (length xs) refl in
    let low = below_from_sorted (xs ++ x ∷ ys) i (length xs) 0 h lt (omega (arith, length-append xs (x ∷ ys))) in
    omega (arith, own, next, low))

-- and so of ids
pub ids-below : (ids : List RecId) (n : ℕ) (more all : List ℕ) → numbers ids ++ n ∷ more ≡ all → IsStrictlySortedBy nat_cmp all → All (λ before. before.0 < n) ids
ids-below ids n more all are rise =
    let low = below-next (numbers ids) n more (subst (IsStrictlySortedBy nat_cmp) (sym are) rise) in
    let none : RecId = record { 0 = 0 } in
    All-from_get_or (λ before. before.0 < n) ids none
    (λ i lt.
    let at : get_or (numbers ids) i 0 ≡ (get_or ids i none).0 = get_or-map (λ (id : RecId). id.0) ids i none 0 lt in
    let own = All-get_or (λ b. b < n) (numbers ids) i 0 (omega (arith, length-map ids (λ (id : RecId). id.0))) low in
    omega (arith, at, own))

-- ---- numbers that are taken in at their place

numbers-named : (ns : List ℕ) → numbers (named ns) ≡ ns
numbers-named [] = refl
numbers-named (n ∷ ns) = ap (λ (more : List ℕ). n ∷ more) (numbers-named ns)

-- what is below one that is below others is below them
under : (k x : ℕ) (ns : List ℕ) → k < x → AllByRecursion (λ y. nat_cmp x y ≡ Less) ns → AllByRecursion (λ y. nat_cmp k y ≡ Less) ns
under k x [] low h = tt
under k x (n ∷ ns) low h =
    let up : x < n = ranked x n Less (sym h.0) in
    let more : k < n = omega arith in
    (sym (nat_cmp_is k n Less more), under k x ns low h.1)

-- what holds of it and of those before it holds of all
with-one : (P : ℕ → Type 0) (k : ℕ) (ns : List ℕ) → P k → AllByRecursion P ns → AllByRecursion P (insert_key nat_cmp ns k)
with-one P k [] own all = (own, tt)
with-one P k (n ∷ ns) own all = by (with-one P k ns own all.1) (nat_cmp k n) where
  by : AllByRecursion P (insert_key nat_cmp ns k) → (o : Ordering) → AllByRecursion P (match_ordering o (k ∷ n ∷ ns) (n ∷ ns) (n ∷ insert_key nat_cmp ns k))
  by later Less = (own, all)
  by later Equal = all
  by later Greater = (all.0, later)

sorted-with : (k : ℕ) (ns : List ℕ) → IsStrictlySortedBy nat_cmp ns → IsStrictlySortedBy nat_cmp (insert_key nat_cmp ns k)
unfolding IsStrictlySortedBy
sorted-with k [] rise = (tt, tt)
sorted-with k (n ∷ ns) rise = by (sorted-with k ns rise.1) (nat_cmp k n) refl where
  by : IsStrictlySortedBy nat_cmp (insert_key nat_cmp ns k) → (o : Ordering) → nat_cmp k n ≡ o → IsStrictlySortedBy nat_cmp (match_ordering o (k ∷ n ∷ ns) (n ∷ ns) (n ∷ insert_key nat_cmp ns k))
  by later Less is = ((is, under k n ns (ranked k n Less (sym is)) rise.0), rise)
  by later Equal is = rise
  by later Greater is = (with-one (λ y. nat_cmp n y ≡ Less) k ns (sym (nat_cmp_is n k Less (ranked k n Greater (sym is)))) rise.0, later)

sorted-fold : (so_far ns : List ℕ) → IsStrictlySortedBy nat_cmp so_far → IsStrictlySortedBy nat_cmp (fold (insert_key nat_cmp) so_far ns)
sorted-fold so_far [] rise = rise
sorted-fold so_far (n ∷ ns) rise = sorted-fold (insert_key nat_cmp so_far n) ns (sorted-with n so_far rise)

nothing-sorted : IsStrictlySortedBy nat_cmp []
unfolding IsStrictlySortedBy
nothing-sorted = tt

-- so the ids of rows rise
pub among-rises : (ids ns : List ℕ) → IsRising (ids_among ids ns)
among-rises ids ns =
    let keys = fold (insert_key nat_cmp) [] (map (slice_index ids) ns) in
    subst IsStrictlyIncreasing (sym (numbers-named keys)) (IsStrictlyIncreasing-from_sorted keys (sorted-fold [] (map (slice_index ids) ns) nothing-sorted))
