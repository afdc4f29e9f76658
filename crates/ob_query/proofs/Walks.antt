-- A walk over ids that rise, a page at a time.
use Rattle.std.proofs.Common.{◌≡◌, ℕ, zero, suc, ◌+◌, ◌-◌, ◌<◌, ◌≤◌, Bool, true, false, cond, ◌&&◌, List, [], ◌∷◌, ◌++◌, filter, get_or, length, take, Option, Some, None, refl, sym, ap, subst, ◌∙◌, arith, is_lt}
use Rattle.std.specs.Borrow.{Bor}
use Rattle.std.specs.Option.{option_copied}
use Rattle.std.specs.Prelude.{nat_lt, slice_get}
use Rattle.std.specs.List.{AllByRecursion}
use Rattle.std.specs.List.Sorted.{IsSorted, IsStrictlySortedBy}
use Rattle.std.specs.Ordering.{nat_cmp}
use Rattle.std.specs.declared.cmp.Ordering.TheVariants.{Less}
use Rattle.std.proofs.lemmas.Bool.Decides.{nat_tests}
use Rattle.std.proofs.lemmas.Cmp.{ranked}
use Rattle.std.proofs.lemmas.List.Kept.{IsStrictlySortedBy-filter}
use Rattle.std.proofs.lemmas.Map.Keys.{sorted_head, sorted_tail}
use Rattle.std.proofs.lemmas.Option.{same_Some, slice_get-get_or}
use Rattle.ob_base.specs.declared.id.RecId.{RecId}
use Rattle.ob_query.specs.SearchQuestions.{IsTaken}
use Rattle.ob_tables.proofs.CallerLemmas.{id_cmp}

-- the ids above one
abbrev pub above : RecId → List RecId → List RecId
above a ids = filter (λ id. nat_lt a.0 id.0) ids

lower : (a b : ℕ) → nat_cmp a b ≡ Less → a < b
lower a b e = ranked a b Less (sym e)

is_lower : (a b : ℕ) → a < b → nat_lt a b ≡ true
is_lower a b h = grind (arith, nat_tests)

not_lower : (a b : ℕ) → b ≤ a → nat_lt a b ≡ false
not_lower a b h = grind (arith, nat_tests)

-- one that is above stays
above-more : (a x : RecId) (ids : List RecId) → a.0 < x.0 → above a (x ∷ ids) ≡ x ∷ above a ids
above-more a x ids h = ap (λ (b : Bool). cond b (x ∷ above a ids) (above a ids)) (is_lower a.0 x.0 h)

above-less : (a x : RecId) (ids : List RecId) → x.0 ≤ a.0 → above a (x ∷ ids) ≡ above a ids
above-less a x ids h = ap (λ (b : Bool). cond b (x ∷ above a ids) (above a ids)) (not_lower a.0 x.0 h)

-- where all are above nothing is left out
pub above-all : (a : RecId) (ids : List RecId) → AllByRecursion (λ id. a.0 < id.0) ids → above a ids ≡ ids
above-all a [] h = refl
above-all a (x ∷ ids) h = above-more a x ids h.0 ∙ ap (λ (l : List RecId). x ∷ l) (above-all a ids h.1)

less_all : (x : RecId) (ids : List RecId) → AllByRecursion (λ id. id_cmp x id ≡ Less) ids → AllByRecursion (λ id. x.0 < id.0) ids
less_all x [] h = tt
less_all x (y ∷ ids) h = (lower x.0 y.0 h.0, less_all x ids h.1)

-- of those above one, those above a further one are those above that
above-twice : (a b : RecId) (ids : List RecId) → a.0 ≤ b.0 → above b (above a ids) ≡ above b ids
above-twice a b [] h = refl
above-twice a b (x ∷ ids) h = by (nat_lt a.0 x.0) refl (nat_lt b.0 x.0) refl (above-twice a b ids h) where
  far : nat_lt a.0 x.0 ≡ false → nat_lt b.0 x.0 ≡ true → ⊥
  far e f = grind (arith, nat_tests)

  by : (m : Bool) → nat_lt a.0 x.0 ≡ m → (n : Bool) → nat_lt b.0 x.0 ≡ n → above b (above a ids) ≡ above b ids → above b (cond m (x ∷ above a ids) (above a ids)) ≡ cond n (x ∷ above b ids) (above b ids)
  by true e true f rest = ap (λ (c : Bool). cond c (x ∷ above b (above a ids)) (above b (above a ids))) f ∙ ap (λ (l : List RecId). x ∷ l) rest
  by true e false f rest = ap (λ (c : Bool). cond c (x ∷ above b (above a ids)) (above b (above a ids))) f ∙ rest
  by false e true f rest = absurd (far e f)
  by false e false f rest = rest

-- what stands in a list that is above an id is above it
standing : (x : RecId) (ids : List RecId) (k : ℕ) (y : RecId) → AllByRecursion (λ id. id_cmp x id ≡ Less) ids → slice_get ids k ≡ Some y → x.0 < y.0
standing x [] k y h e = absurd cc
standing x (z ∷ ids) zero y h e = subst (λ (q : RecId). x.0 < q.0) (same_Some z y e) (lower x.0 z.0 h.0)
standing x (z ∷ ids) (suc k) y h e = standing x ids k y h.1 e

taken : (n : ℕ) (ids : List RecId) (k : ℕ) (y : RecId) → slice_get (take n ids) k ≡ Some y → slice_get ids k ≡ Some y
taken zero ids k y e = absurd cc
taken (suc n) [] k y e = absurd cc
taken (suc n) (x ∷ ids) zero y e = e
taken (suc n) (x ∷ ids) (suc k) y e = taken n ids k y e

-- the one id and those above it
one-and-above : (x last : RecId) (ids : List RecId) → IsStrictlySortedBy id_cmp (x ∷ ids) → x ≡ last → x ∷ ids ≡ x ∷ above last (x ∷ ids)
one-and-above x last ids up same =
    let low : x.0 ≤ last.0 = let e : x.0 ≡ last.0 = ap (λ (q : RecId). q.0) same in omega arith in
    ap (λ (l : List RecId). x ∷ l)
    (sym (above-all last ids (subst (λ (q : RecId). AllByRecursion (λ id. q.0 < id.0) ids) same (less_all x ids (sorted_head id_cmp x ids up)))) ∙ sym (above-less last x ids low))

-- ids that rise are the first ones and those above the last of these
first-to : (n : ℕ) (ids : List RecId) (k : ℕ) (last : RecId) → IsStrictlySortedBy id_cmp ids → length (take n ids) ≡ suc k → slice_get (take n ids) k ≡ Some last → ids ≡ take n ids ++ above last ids
first-to zero ids k last up size at = absurd cc
first-to (suc n) [] k last up size at = absurd cc
first-to (suc zero) (x ∷ ids) zero last up size at = one-and-above x last ids up (same_Some x last at)
first-to (suc zero) (x ∷ ids) (suc k) last up size at = absurd cc
first-to (suc (suc n)) (x ∷ []) zero last up size at = one-and-above x last [] up (same_Some x last at)
first-to (suc (suc n)) (x ∷ []) (suc k) last up size at = absurd cc
first-to (suc (suc n)) (x ∷ y ∷ ids) zero last up size at = absurd cc
first-to (suc (suc n)) (x ∷ y ∷ ids) (suc k) last up size at =
    let rest = first-to (suc n) (y ∷ ids) k last (sorted_tail id_cmp x (y ∷ ids) up) (let e : suc (suc (length (take n ids))) ≡ suc (suc k) = size in omega arith) at in
    let low : x.0 < last.0 = standing x (y ∷ ids) k last (sorted_head id_cmp x (y ∷ ids) up) (taken (suc n) (y ∷ ids) k last at) in
    let back : x.0 ≤ last.0 = omega arith in
    ap (λ (l : List RecId). x ∷ l) (rest ∙ ap (λ (l : List RecId). take (suc n) (y ∷ ids) ++ l) (sym (above-less last x (y ∷ ids) back)))

pub first-and-above : (n : ℕ) (ids : List RecId) (last : RecId) → IsStrictlySortedBy id_cmp ids → slice_get (take n ids) (length (take n ids) - 1) ≡ Some last → ids ≡ take n ids ++ above last ids
first-and-above n ids last up at = by (length (take n ids)) refl where
  by : (m : ℕ) → length (take n ids) ≡ m → ids ≡ take n ids ++ above last ids
  by zero size = absurd (none (take n ids) size at) where
    none : (l : List RecId) → length l ≡ 0 → slice_get l (length l - 1) ≡ Some last → ⊥
    none [] size at = cc
    none (x ∷ l) size at = cc
  by (suc k) size =
      let place : length (take n ids) - 1 ≡ k = omega arith in
      first-to n ids k last up size (subst (λ (m : ℕ). slice_get (take n ids) m ≡ Some last) place at)

-- what is above an id is the first page of it and what is above that
pub page-and-above : (n : ℕ) (ids : List RecId) (after last : RecId) → IsStrictlySortedBy id_cmp ids → after.0 < last.0 → slice_get (take n (above after ids)) (length (take n (above after ids)) - 1) ≡ Some last
    → above after ids ≡ take n (above after ids) ++ above last ids
page-and-above n ids after last up low at =
    first-and-above n (above after ids) last (IsStrictlySortedBy-filter id_cmp (λ id. nat_lt after.0 id.0) ids up) at
    ∙ ap (λ (l : List RecId). take n (above after ids) ++ l) (above-twice after last ids (omega arith))

-- where the first ones are none there are none
pub no-first : (n : ℕ) (ids : List RecId) → take (suc n) ids ≡ [] → ids ≡ []
no-first n [] e = refl
no-first n (x ∷ ids) e = absurd cc

next : (x : RecId) (ids : List RecId) → AllByRecursion (λ id. x.0 < id.0) ids → AllByRecursion (λ id. x.0 + 1 ≤ id.0) ids
next x [] h = tt
next x (y ∷ ids) h = (let lt : x.0 < y.0 = h.0 in omega arith, next x ids h.1)

-- ids that rise between two bounds are no more than fit between them
long : (low high : ℕ) (ids : List RecId) → low ≤ high + 1 → IsStrictlySortedBy id_cmp ids → AllByRecursion (λ id. low ≤ id.0) ids → AllByRecursion (λ id. id.0 ≤ high) ids → low + length ids ≤ high + 1
long low high [] h up lows highs = omega arith
long low high (x ∷ ids) h up lows highs =
    let here : x.0 ≤ high = highs.0 in
    let from : low ≤ x.0 = lows.0 in
    let rest : (x.0 + 1) + length ids ≤ high + 1 = long (x.0 + 1) high ids (omega arith) (sorted_tail id_cmp x ids up) (next x ids (less_all x ids (sorted_head id_cmp x ids up))) highs.1 in
    omega arith

zero_low : (ids : List RecId) → AllByRecursion (λ id. 0 ≤ id.0) ids
zero_low [] = tt
zero_low (x ∷ ids) = (omega arith, zero_low ids)

pub few-ids : (high : ℕ) (ids : List RecId) → IsStrictlySortedBy id_cmp ids → AllByRecursion (λ id. id.0 ≤ high) ids → length ids ≤ high + 1
few-ids high ids up highs = let fits = long 0 high ids (omega arith) up (zero_low ids) highs in omega arith

-- a test that all pass is one less to ask
pub all-pass : (p q : RecId → Bool) (ids : List RecId) → AllByRecursion (λ id. p id ≡ true) ids → filter (λ id. p id && q id) ids ≡ filter q ids
all-pass p q [] h = refl
all-pass p q (x ∷ ids) h = ap (λ (b : Bool). cond (b && q x) (x ∷ filter (λ id. p id && q id) ids) (filter (λ id. p id && q id) ids)) h.0 ∙ ap (λ (l : List RecId). cond (q x) (x ∷ l) l) (all-pass p q ids h.1)

strictly : (a b : ℕ) → a < b → is_lt (nat_cmp b a) ≡ false
strictly a b h = grind (arith, nat_tests)

-- ids that rise are sorted by their numbers
pub rising-sorted : (ids : List RecId) → IsStrictlySortedBy id_cmp ids → IsSorted id_cmp ids
rising-sorted [] up = λ k d low lt. absurd (omega arith)
rising-sorted (x ∷ []) up = λ k d low lt. absurd (omega arith)
rising-sorted (x ∷ y ∷ ids) up = by (rising-sorted (y ∷ ids) (sorted_tail id_cmp x (y ∷ ids) up)) where
  by : IsSorted id_cmp (y ∷ ids) → IsSorted id_cmp (x ∷ y ∷ ids)
  by rest zero d low lt = strictly x.0 y.0 (lower x.0 y.0 (sorted_head id_cmp x (y ∷ ids) up).0)
  by rest (suc k) d low lt =
      let place : suc (k + 1) ≡ suc k + 1 = omega arith in
      subst (λ (n : ℕ). is_lt (id_cmp (get_or (x ∷ y ∷ ids) n d) (get_or (y ∷ ids) k d)) ≡ false) place (rest k d (omega arith) (omega arith))

-- what stands at a place of a list that was told
pub told-last : (told : Option (Bor RecId)) (last : Bor RecId) (slice page : List RecId) → told ≡ Some last → option_copied told ≡ slice_get slice (length slice - 1) → slice ≡ page → slice_get page (length page - 1) ≡ Some last.now
told-last told last slice page is value same = sym (ap (λ (l : List RecId). slice_get l (length l - 1)) same) ∙ sym value ∙ ap option_copied is

-- a page that has a last id has a first one
pub turned : (o : Option RecId) (page behind ids further : List RecId) (last : RecId) → slice_get page (length page - 1) ≡ Some last → IsTaken o page behind → ids ≡ page ++ further → IsTaken o ids (behind ++ further)
turned None page behind ids further last at left is = absurd (none page left.0 at) where
  none : (page : List RecId) → page ≡ [] → slice_get page (length page - 1) ≡ Some last → ⊥
  none [] left at = cc
  none (x ∷ page) left at = cc
turned (Some id) page behind ids further last at left is = is ∙ ap (λ (l : List RecId). l ++ further) left

-- a list without a last item is empty
pub none-last : (told : Option (Bor RecId)) (slice page : List RecId) → told ≡ None → option_copied told ≡ slice_get slice (length slice - 1) → slice ≡ page → page ≡ []
none-last told slice page is value same = by page (sym (ap option_copied is) ∙ value ∙ ap (λ (l : List RecId). slice_get l (length l - 1)) same) where
  by : (page : List RecId) → None ≡ slice_get page (length page - 1) → page ≡ []
  by [] e = refl
  by (x ∷ page) e = absurd (let some = slice_get-get_or (x ∷ page) (length (x ∷ page) - 1) x (omega arith) in cc)
