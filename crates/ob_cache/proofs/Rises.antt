-- Rising ids: lists with the same ids are equal, and filters keep what they keep.
use Rattle.std.proofs.Common.{◌≡◌, ◌<◌, ◌==◌, ◌||◌, ℕ, zero, suc, Bool, true, false, cond, List, [], ◌∷◌, take, drop, length, get_or, filter, Some, None, refl, sym, ap, subst, ◌∙◌, arith, eqb-true, eq-eqb}
use Rattle.std.specs.Prelude.{All, slice_get}
use Rattle.std.specs.List.{list_any}
use Rattle.std.specs.List.Sorted.{IsStrictlySortedBy}
use Rattle.std.proofs.lemmas.List.Elements.{All-filter}
use Rattle.std.proofs.lemmas.List.Kept.{IsStrictlySortedBy-filter}
use Rattle.std.proofs.lemmas.Option.{same_Some}
use Rattle.ob_base.specs.Rising.{IsRising}
use Rattle.ob_base.specs.declared.id.RecId.{RecId}
use Rattle.ob_io.proofs.CallerLemmas.{below-next, id_cmp, rising-from_sorted, sorted-from_rising}
use Rattle.ob_tables.proofs.CallerLemmas.{HasAt, at-item, place-below}

some-is-not-none : {X : Type 0} (x : X) → None ≡ Some x → ⊥
some-is-not-none x is = cc

no-is-not-yes : false ≡ true → ⊥
no-is-not-yes is = cc

not-below : (n : ℕ) → n < n → ⊥
not-below n less = absurd (omega arith)

later : {X : Type 0} (y : X) (xs : List X) (x : X) → HasAt xs x → HasAt (y ∷ xs) x
later y xs x h = (suc h.0, h.1)

-- what a filter has the list has, and it passes
pub at-filtered : {X : Type 0} (p : X → Bool) (xs : List X) (x : X) → HasAt (filter p xs) x → HasAt xs x × (p x ≡ true)
at-filtered p [] x h = absurd (some-is-not-none x h.1)
at-filtered {X = X} p (y ∷ ys) x h = by (p y) refl h (λ g. at-filtered p ys x g)
  where
    first : p y ≡ true → (rest : HasAt (filter p ys) x → HasAt ys x × (p x ≡ true)) → (k : ℕ) → slice_get (y ∷ filter p ys) k ≡ Some x → HasAt (y ∷ ys) x × (p x ≡ true)
    first passes rest zero is = ((0, is), ap p (sym (same_Some y x is)) ∙ passes)
    first passes rest (suc k) is = let r = rest (k, is) in (later y ys x r.0, r.1)

    by : (b : Bool) → p y ≡ b → HasAt (cond b (y ∷ filter p ys) (filter p ys)) x → (HasAt (filter p ys) x → HasAt ys x × (p x ≡ true)) → HasAt (y ∷ ys) x × (p x ≡ true)
    by true passes h rest = first passes rest h.0 h.1
    by false fails h rest = let r = rest h in (later y ys x r.0, r.1)

-- and what the list has and passes the filter has
pub filtered-at : {X : Type 0} (p : X → Bool) (xs : List X) (x : X) → HasAt xs x → p x ≡ true → HasAt (filter p xs) x
filtered-at p [] x h ok = absurd (some-is-not-none x h.1)
filtered-at {X = X} p (y ∷ ys) x h ok = by h.0 h.1 (λ again. filtered-at p ys x again ok)
  where
    kept : (b : Bool) → HasAt (filter p ys) x → HasAt (cond b (y ∷ filter p ys) (filter p ys)) x
    kept true rest = later y (filter p ys) x rest
    kept false rest = rest

    by : (k : ℕ) → slice_get (y ∷ ys) k ≡ Some x → (HasAt ys x → HasAt (filter p ys) x) → HasAt (cond (p y) (y ∷ filter p ys) (filter p ys)) x
    by zero e again = subst (λ (b : Bool). HasAt (cond b (y ∷ filter p ys) (filter p ys)) x) (sym (ap p (same_Some y x e) ∙ ok)) (0, e)
    by (suc k) e again = kept (p y) (again (k, e))

same-id : (a b : RecId) → (a.0 == b.0) ≡ true → a ≡ b
same-id a b e = ap (λ (n : ℕ). record { 0 = n }) (eqb-true a.0 b.0 e)

-- some id is this one where the list has it
pub any-at : (id : RecId) (ids : List RecId) → list_any (λ other. other.0 == id.0) ids ≡ true → HasAt ids id
any-at id [] h = absurd (no-is-not-yes h)
any-at id (x ∷ ids) h = by (x.0 == id.0) refl h (λ any. any-at id ids any)
  where
    by : (b : Bool) → (x.0 == id.0) ≡ b → (b || list_any (λ other. other.0 == id.0) ids) ≡ true → (list_any (λ other. other.0 == id.0) ids ≡ true → HasAt ids id) → HasAt (x ∷ ids) id
    by true same any again = (0, ap Some (same-id x id same))
    by false other any again = later x ids id (again any)

pub at-any : (id : RecId) (ids : List RecId) → HasAt ids id → list_any (λ other. other.0 == id.0) ids ≡ true
at-any id [] h = absurd (some-is-not-none id h.1)
at-any id (x ∷ ids) h = by h.0 h.1 (λ again. at-any id ids again)
  where
    or-right : (a b : Bool) → b ≡ true → (a || b) ≡ true
    or-right true b is = refl
    or-right false b is = is

    by : (k : ℕ) → slice_get (x ∷ ids) k ≡ Some id → (HasAt ids id → list_any (λ other. other.0 == id.0) ids ≡ true) → ((x.0 == id.0) || list_any (λ other. other.0 == id.0) ids) ≡ true
    by zero e again = ap (λ (b : Bool). b || list_any (λ other. other.0 == id.0) ids) (eq-eqb x.0 id.0 (ap (λ (r : RecId). r.0) (same_Some x id e)))
    by (suc k) e again = or-right (x.0 == id.0) (list_any (λ other. other.0 == id.0) ids) (again (k, e))

-- each id is below those behind it
abbrev Climbs : List RecId → Type 0
Climbs ids = (i j : ℕ) (x y : RecId) → slice_get ids i ≡ Some x → slice_get ids j ≡ Some y → i < j → x.0 < y.0

climbs-on : (x : RecId) (xs : List RecId) → Climbs (x ∷ xs) → Climbs xs
climbs-on x xs climbs i j a b is_a is_b less = climbs (suc i) (suc j) a b is_a is_b (omega arith)

-- the tail has what the whole has behind its first
behind-first : (x y : RecId) (xs ys : List RecId) → x ≡ y → Climbs (x ∷ xs) → ((z : RecId) → HasAt (x ∷ xs) z → HasAt (y ∷ ys) z) → (z : RecId) → HasAt xs z → HasAt ys z
behind-first x y xs ys same climbs has z at = by found.0 found.1
  where
    found : HasAt (y ∷ ys) z
    found = has z (later x xs z at)

    above : x.0 < z.0
    above = climbs 0 (suc at.0) x z refl at.1 (omega arith)

    by : (k : ℕ) → slice_get (y ∷ ys) k ≡ Some z → HasAt ys z
    by zero is = absurd (not-below z.0 (subst (λ (r : RecId). r.0 < z.0) (same ∙ same_Some y z is) above))
    by (suc k) is = (k, is)

same-first : (x y : RecId) (xs ys : List RecId) → Climbs (x ∷ xs) → Climbs (y ∷ ys) → HasAt (y ∷ ys) x → HasAt (x ∷ xs) y → x ≡ y
same-first x y xs ys climbs_x climbs_y x_in y_in = by x_in.0 x_in.1
  where
    other : y.0 < x.0 → (k : ℕ) → slice_get (x ∷ xs) k ≡ Some y → x ≡ y
    other less zero is = same_Some x y is
    other less (suc k) is = absurd (let more : x.0 < y.0 = climbs_x 0 (suc k) x y refl is (omega arith) in omega arith)

    by : (k : ℕ) → slice_get (y ∷ ys) k ≡ Some x → x ≡ y
    by zero is = sym (same_Some y x is)
    by (suc k) is = other (climbs_y 0 (suc k) y x refl is (omega arith)) y_in.0 y_in.1

same-climbing : (xs ys : List RecId) → Climbs xs → Climbs ys → ((z : RecId) → HasAt xs z → HasAt ys z) → ((z : RecId) → HasAt ys z → HasAt xs z) → xs ≡ ys
same-climbing [] [] climbs_x climbs_y to from = refl
same-climbing [] (y ∷ ys) climbs_x climbs_y to from = absurd (some-is-not-none y (from y (0, refl)).1)
same-climbing (x ∷ xs) [] climbs_x climbs_y to from = absurd (some-is-not-none x (to x (0, refl)).1)
same-climbing (x ∷ xs) (y ∷ ys) climbs_x climbs_y to from =
    let first : x ≡ y = same-first x y xs ys climbs_x climbs_y (to x (0, refl)) (from y (0, refl)) in
    let rest : xs ≡ ys = same-climbing xs ys (climbs-on x xs climbs_x) (climbs-on y ys climbs_y) (behind-first x y xs ys first climbs_x to) (behind-first y x ys xs (sym first) climbs_y from) in
    ap (λ (z : RecId). z ∷ xs) first ∙ ap (λ (zs : List RecId). y ∷ zs) rest

-- rising lists with the same ids are equal
pub same-rising : (xs ys : List RecId) → IsRising xs → IsRising ys → ((z : RecId) → HasAt xs z → HasAt ys z) → ((z : RecId) → HasAt ys z → HasAt xs z) → xs ≡ ys
same-rising xs ys rise_x rise_y to from = same-climbing xs ys (place-below xs rise_x) (place-below ys rise_y) to from

-- a filter of rising ids rises
pub rising-filter : (p : RecId → Bool) (ids : List RecId) → IsRising ids → IsRising (filter p ids)
rising-filter p ids rising = rising-from_sorted (filter p ids) (IsStrictlySortedBy-filter id_cmp p ids (sorted-from_rising ids rising))

-- what a filter kept of the ids so far is below the next
pub kept-below : (p : RecId → Bool) (ids : List RecId) (i : ℕ) (d : RecId) → IsRising ids → i < length ids → All (λ before. before.0 < (get_or ids i d).0) (filter p (take i ids))
kept-below p ids i d rising within =
    All-filter p (λ (before : RecId). before.0 < (get_or ids i d).0) (take i ids)
    (below-next (take i ids) (get_or ids i d) (drop (suc i) ids) (subst (IsStrictlySortedBy id_cmp) (sym (at-item ids i d within)) (sorted-from_rising ids rising)))
