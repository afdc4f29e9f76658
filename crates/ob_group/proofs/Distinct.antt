-- Values of a list, each once: what a set of their keys has.
use Rattle.std.proofs.Common.{◌≡◌, ℕ, zero, suc, ◌+◌, ◌<◌, ◌≤◌, Bool, true, false, cond, ◌||◌, List, [], ◌∷◌, map, length, get_or, Option, Some, None, BTreeSet, refl, sym, ap, subst, ◌∙◌, arith}
use Rattle.std.specs.Prelude.{◌↔◌, Contains, slice_get}
use Rattle.std.specs.BTreeMap.{is_at}
use Rattle.std.specs.BTreeSet.{contains}
use Rattle.std.specs.Cmp.{tied_itself}
use Rattle.std.specs.FinMap.{IsAntisymmetric}
use Rattle.std.specs.List.{AllByRecursion, list_any}
use Rattle.std.specs.List.Sorted.{IsStrictlySortedBy}
use Rattle.std.specs.Ordering.{bool_cmp, is_eq, ordering_reverse, ordering_then}
use Rattle.std.specs.declared.cmp.Ordering.{Ordering}
use Rattle.std.specs.declared.cmp.Ordering.TheVariants.{Less, Equal, Greater}
use Rattle.std.proofs.lemmas.List.{length-map}
use Rattle.std.proofs.lemmas.Option.{same_Some}
use Rattle.ob_base.proofs.CallerLemmas.{value_order_exact}
use Rattle.ob_base.specs.declared.value.Value.{Value}
use Rattle.ob_base.specs.declared.value.Value.TheVariants as value
use Rattle.ob_query.proofs.CallerLemmas.{same_term}
use Rattle.ob_group.specs.GroupAmounts.{AreDistinct}
use Rattle.ob_group.specs.GroupValues.{IsDistinctCount}
use Rattle.ob_query.specs.SearchKeys.{rising}
use Rattle.ob_query.specs.SearchKeys.{falling_value, key_order, key_order_total, rising_value}
use Rattle.ob_query.specs.SearchOrder.{unset_last}
use Rattle.ob_query.specs.declared.searching.order.Key.{Key}

any_here : (b c : Bool) → b ≡ true → (b || c) ≡ true
any_here true c e = refl
any_here false c e = absurd cc

any_later : (b c : Bool) → c ≡ true → (b || c) ≡ true
any_later true c e = refl
any_later false c e = e

-- ---- places in lists

module _ {X : Type 0} where
  pub place-contains : (xs : List X) (i : ℕ) (x : X) → slice_get xs i ≡ Some x → Contains xs x
  place-contains [] i x e = absurd cc
  place-contains (y ∷ xs) zero x e = (0, omega arith, same_Some y x e)
  place-contains (y ∷ xs) (suc i) x e = let at = place-contains xs i x e in (suc at.0, (let lt : at.0 < length xs = at.1 in omega arith), at.2)

  pub contains-place : (xs : List X) (x : X) → Contains xs x → (i : ℕ) × (slice_get xs i ≡ Some x)
  contains-place [] x (k, lt, e) = absurd (omega arith)
  contains-place (y ∷ xs) x (zero, lt, e) = (0, ap Some e)
  contains-place (y ∷ xs) x (suc k, lt, e) = let at = contains-place xs x (k, omega arith, e) in (suc at.0, at.1)

  -- something that passes stands there
  pub any-from : (p : X → Bool) (xs : List X) (i : ℕ) (x : X) → slice_get xs i ≡ Some x → p x ≡ true → list_any p xs ≡ true
  any-from p [] i x e passes = absurd cc
  any-from p (y ∷ xs) zero x e passes = any_here (p y) (list_any p xs) (ap p (same_Some y x e) ∙ passes)
  any-from p (y ∷ xs) (suc i) x e passes = any_later (p y) (list_any p xs) (any-from p xs i x e passes)

  any_by : (p : X → Bool) (y : X) (xs : List X) (b : Bool) → p y ≡ b → (b || list_any p xs) ≡ true → (list_any p xs ≡ true → (i : ℕ) × (x : X) × (slice_get xs i ≡ Some x) × (p x ≡ true))
      → (i : ℕ) × (x : X) × (slice_get (y ∷ xs) i ≡ Some x) × (p x ≡ true)
  any_by p y xs true is some later = (0, y, refl, is)
  any_by p y xs false is some later = let at = later some in (suc at.0, at.1, at.2, at.3)

  pub any-place : (p : X → Bool) (xs : List X) → list_any p xs ≡ true → (i : ℕ) × (x : X) × (slice_get xs i ≡ Some x) × (p x ≡ true)
  any-place p [] some = absurd cc
  any-place p (y ∷ xs) some = any_by p y xs (p y) refl some (any-place p xs)

pub place-map : {A B : Type 0} (f : A → B) (xs : List A) (i : ℕ) (x : A) → slice_get xs i ≡ Some x → slice_get (map f xs) i ≡ Some (f x)
place-map f [] i x e = absurd cc
place-map {A} f (y ∷ xs) zero x e = ap (λ (z : A). Some (f z)) (same_Some y x e)
place-map f (y ∷ xs) (suc i) x e = place-map f xs i x e

pub map-place : {A B : Type 0} (f : A → B) (xs : List A) (i : ℕ) (y : B) → slice_get (map f xs) i ≡ Some y → (x : A) × (slice_get xs i ≡ Some x) × (f x ≡ y)
map-place f [] i y e = absurd cc
map-place f (x ∷ xs) zero y e = (x, refl, same_Some (f x) y e)
map-place f (x ∷ xs) (suc i) y e = map-place f xs i y e

-- ---- keys

both_equal : (o p : Ordering) → ordering_then o p ≡ Equal → (o ≡ Equal) × (p ≡ Equal)
both_equal Less p e = absurd cc
both_equal Equal p e = (refl, e)
both_equal Greater p e = absurd cc

unset_last_exact : IsAntisymmetric unset_last
unset_last_exact a b e = value_order_exact a b (both_equal _ _ e).1

flags_exact : (a b : Bool) → bool_cmp a b ≡ Equal → a ≡ b
flags_exact false false e = refl
flags_exact false true e = absurd cc
flags_exact true false e = absurd cc
flags_exact true true e = refl

rising_parts : (d : Bool) (v w : Value) → ordering_then (unset_last (cond d value.Nil v) (cond d value.Nil w)) (unset_last (cond d w value.Nil) (cond d v value.Nil)) ≡ Equal → v ≡ w
rising_parts false v w e = unset_last_exact v w (both_equal (unset_last v w) (unset_last value.Nil value.Nil) e).0
rising_parts true v w e = sym (unset_last_exact w v (both_equal (unset_last value.Nil value.Nil) (unset_last w v) e).1)

-- only equal keys compare as equal
pub key_order_exact : IsAntisymmetric key_order
key_order_exact a b e =
    let first = both_equal (bool_cmp a.descending b.descending) (ordering_then (unset_last (rising_value a) (rising_value b)) (unset_last (falling_value b) (falling_value a))) e in
    let flags = flags_exact a.descending b.descending first.0 in
    let values = rising_parts a.descending a.value b.value
    (subst (λ (d : Bool). ordering_then (unset_last (rising_value a) (cond d value.Nil b.value)) (unset_last (cond d b.value value.Nil) (falling_value a)) ≡ Equal) (sym flags) first.1) in
    subst (λ (d : Bool). a ≡ record { descending = d; value = b.value }) flags (ap (λ (v : Value). record { descending = a.descending; value = v }) values)

-- keys that rise go as their values
pub rising_order : (v w : Value) → key_order (rising v) (rising w) ≡ unset_last v w
rising_order v w = same_term false v w

eq_true : (o : Ordering) → is_eq o ≡ true → o ≡ Equal
eq_true Less e = absurd cc
eq_true Equal e = refl
eq_true Greater e = absurd cc

eq_flipped : (o : Ordering) → is_eq (ordering_reverse o) ≡ is_eq o
eq_flipped Less = refl
eq_flipped Equal = refl
eq_flipped Greater = refl

same_itself : (k : Key) → is_eq (key_order k k) ≡ true
same_itself k = ap is_eq (tied_itself key_order_total k)

-- whether a key is like another
abbrev pub is_like : Key → Key → Bool
is_like q k = is_eq (key_order q k)

like_back : (q k : Key) → is_like q k ≡ is_like k q
like_back q k = ap is_eq (key_order_total.antisymm q k) ∙ eq_flipped (key_order k q)

-- ---- a set of the keys of values

-- with those that are still to come it has the keys of all
pub record HasKeys (all rest : List Value) (seen : BTreeSet Key) : Type 0 where
  pub known : (q : Key) → (contains key_order seen q || list_any (λ v. is_like q (rising v)) rest) ≡ list_any (λ v. is_like q (rising v)) all

pub HasKeys-none : (all : List Value) (seen : BTreeSet Key) → seen.keys ≡ [] → HasKeys all all seen
HasKeys-none all seen none = record { known = λ q. ap (λ (l : List Key). list_any (λ k. is_like q k) l || list_any (λ v. is_like q (rising v)) all) none }

moved : (b c r : Bool) → (cond b true c || r) ≡ (c || (b || r))
moved true true r = refl
moved true false r = refl
moved false c r = refl

-- one more
pub HasKeys-more : (all rest : List Value) (v : Value) (old new : BTreeSet Key) → ((q : Key) → contains key_order new q ≡ cond (is_at (key_order (rising v)) q) true (contains key_order old q))
    → HasKeys all (v ∷ rest) old → HasKeys all rest new
HasKeys-more all rest v old new updates so_far = record {
  known = λ q.
      ap (λ (b : Bool). b || list_any (λ v. is_like q (rising v)) rest) (updates q ∙ ap (λ (b : Bool). cond b true (contains key_order old q)) (like_back (rising v) q))
      ∙ moved (is_like q (rising v)) (contains key_order old q) (list_any (λ v. is_like q (rising v)) rest) ∙ so_far.known q;
}

none_left : (b : Bool) → (b || false) ≡ b
none_left true = refl
none_left false = refl

module _ (all : List Value) (seen : BTreeSet Key) (has : HasKeys all [] seen) where
  known_is : (q : Key) → contains key_order seen q ≡ list_any (λ v. is_like q (rising v)) all
  known_is q = sym (none_left (contains key_order seen q)) ∙ has.known q

  -- each key is one of a value
  of_value : (i : ℕ) (k : Key) → slice_get seen.keys i ≡ Some k → (j : ℕ) × (v : Value) × (slice_get all j ≡ Some v) × (k ≡ rising v)
  of_value i k at =
      let found = any-place (λ v. is_like k (rising v)) all (sym (known_is k) ∙ any-from (λ q. is_like k q) seen.keys i k at (same_itself k)) in
      (found.0, found.1, found.2, key_order_exact k (rising found.1) (eq_true (key_order k (rising found.1)) found.3))

  -- the key of each value is there
  has_value : (j : ℕ) (v : Value) → slice_get all j ≡ Some v → (i : ℕ) × (slice_get seen.keys i ≡ Some (rising v))
  has_value j v at =
      let found = any-place (λ q. is_like (rising v) q) seen.keys (known_is (rising v) ∙ any-from (λ w. is_like (rising v) (rising w)) all j v at (same_itself (rising v))) in
      let same = key_order_exact (rising v) found.1 (eq_true (key_order (rising v) found.1) found.3) in
      (found.0, found.2 ∙ ap Some (sym same))

abbrev its_value : Key → Value
its_value k = k.value

less_all : (k : Key) (ks : List Key) → k ≡ rising k.value → ((i : ℕ) (q : Key) → slice_get ks i ≡ Some q → q ≡ rising q.value) → AllByRecursion (λ q. key_order k q ≡ Less) ks
    → AllByRecursion (λ v. unset_last k.value v ≡ Less) (map its_value ks)
less_all k [] is each h = tt
less_all k (q ∷ ks) is each h = (
  sym (ap (λ (a : Key). key_order a q) is ∙ ap (key_order (rising k.value)) (each 0 q refl) ∙ rising_order k.value q.value) ∙ h.0,
  less_all k ks is (λ i q at. each (suc i) q at) h.1,
)

values_rise : (ks : List Key) → ((i : ℕ) (k : Key) → slice_get ks i ≡ Some k → k ≡ rising k.value) → IsStrictlySortedBy key_order ks → IsStrictlySortedBy unset_last (map its_value ks)
unfolding IsStrictlySortedBy
values_rise [] each up = tt
values_rise (k ∷ ks) each up = (less_all k ks (each 0 k refl) (λ i q at. each (suc i) q at) up.0, values_rise ks (λ i q at. each (suc i) q at) up.1)

-- the set has each value once
pub distinct_keys : (all : List Value) (seen : BTreeSet Key) (n : ℕ) → HasKeys all [] seen → IsStrictlySortedBy key_order seen.keys → n ≡ length seen.keys → IsDistinctCount all n
distinct_keys all seen n has up size = (map its_value seen.keys, distinct, size ∙ sym (length-map seen.keys its_value)) where
  each : (i : ℕ) (k : Key) → slice_get seen.keys i ≡ Some k → k ≡ rising k.value
  each i k at = let of = of_value all seen has i k at in of.3 ∙ ap (λ (q : Key). rising q.value) (sym of.3)

  to : (x : Value) → Contains all x → Contains (map its_value seen.keys) x
  to x within =
      let at = contains-place all x within in
      let found = has_value all seen has at.0 x at.1 in
      place-contains (map its_value seen.keys) found.0 x (place-map its_value seen.keys found.0 (rising x) found.1)

  back : (x : Value) → Contains (map its_value seen.keys) x → Contains all x
  back x within =
      let at = contains-place (map its_value seen.keys) x within in
      let own = map-place its_value seen.keys at.0 x at.1 in
      let of = of_value all seen has at.0 own.0 own.1 in
      let same : of.1 ≡ x = sym (ap its_value of.3) ∙ own.2 in
      place-contains all of.0 x (of.2 ∙ ap Some same)

  distinct : AreDistinct unset_last all (map its_value seen.keys)
  distinct = record { rising = values_rise seen.keys each up; same = λ x. (to x, back x) }
