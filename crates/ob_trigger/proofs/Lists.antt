-- What lists contain: values, what a test keeps, ids that a test finds.
use Rattle.std.proofs.Common.{◌≡◌, ◌⊎◌, ◌↔◌, ◌==◌, ◌||◌, ◌<◌, ◌+◌, ℕ, zero, suc, length, get_or, take, inl, inr, Bool, true, false, cond, List, [], ◌∷◌, ◌++◌, map, filter, refl, sym, ap, subst, ◌∙◌, eqb-true, eq-eqb, arith}
use Rattle.std.specs.Prelude.{Any, Contains}
use Rattle.std.specs.BTreeSet.{insert_key}
use Rattle.std.specs.FinMap.{nat_cmp-IsAntisymmetric}
use Rattle.std.specs.List.{list_any}
use Rattle.std.specs.Ordering.{match_ordering, nat_cmp}
use Rattle.std.specs.declared.cmp.Ordering.{Ordering}
use Rattle.std.specs.declared.cmp.Ordering.TheVariants.{Less, Equal, Greater}
use Rattle.std.proofs.lemmas.List.{take_more}
use Rattle.std.proofs.lemmas.List.Elements.{Contains-append_cases, Contains-append_left, Contains-append_right, Contains-push, Contains-push_cases}
use Rattle.ob_base.specs.declared.id.RecId.{RecId}
use Rattle.ob_schema.proofs.CallerLemmas.{Any-cases, Any-first, Any-later, Any-none, contains-cases, contains-first, contains-later, contains-none}

pub contrary : {P : Type 0} → false ≡ true → P
contrary e = cc

-- true and false are two
pub both_ways : {P : Type 0} (b : Bool) → b ≡ true → b ≡ false → P
both_ways b is not = contrary (sym not ∙ is)

-- one of the values is the value of one
pub contains-map : {X Y : Type 0} (f : X → Y) (xs : List X) (y : Y) → Contains (map f xs) y → (x : X) × Contains xs x × (f x ≡ y)
contains-map f [] y c = absurd (contains-none y c)
contains-map f (x ∷ xs) y c = elim (contains-cases (f x) (map f xs) y c) [
  | inl is ↦ (x, contains-first x xs, is)
  | inr later ↦ (let w = contains-map f xs y later in (w.0, contains-later x xs w.0 w.1, w.2))
]

pub contains-mapped : {X Y : Type 0} (f : X → Y) (xs : List X) (x : X) → Contains xs x → Contains (map f xs) (f x)
contains-mapped f [] x c = absurd (contains-none x c)
contains-mapped f (z ∷ xs) x c = elim (contains-cases z xs x c) [
  | inl is ↦ subst (λ y. Contains (f z ∷ map f xs) (f y)) is (contains-first (f z) (map f xs))
  | inr later ↦ contains-later (f z) (map f xs) (f x) (contains-mapped f xs x later)
]

-- one that a test keeps is one of the list and passes it
pub contains-filter : {X : Type 0} (p : X → Bool) (xs : List X) (y : X) → Contains (filter p xs) y → Contains xs y × (p y ≡ true)
contains-filter p [] y c = absurd (contains-none y c)
contains-filter {X = X} p (x ∷ xs) y c = by (p x) refl c (λ later. contains-filter p xs y later)
  where
    by : (b : Bool) → p x ≡ b → Contains (cond b (x ∷ filter p xs) (filter p xs)) y → (Contains (filter p xs) y → Contains xs y × (p y ≡ true)) → Contains (x ∷ xs) y × (p y ≡ true)
    by true passes c rest = elim (contains-cases x (filter p xs) y c) [
      | inl is ↦ (subst (λ z. Contains (x ∷ xs) z) is (contains-first x xs), sym (ap p is) ∙ passes)
      | inr later ↦ (let r = rest later in (contains-later x xs y r.0, r.1))
    ]
    by false fails c rest = let r = rest c in (contains-later x xs y r.0, r.1)

pub contains-kept : {X : Type 0} (p : X → Bool) (xs : List X) (y : X) → Contains xs y → p y ≡ true → Contains (filter p xs) y
contains-kept p [] y c passes = absurd (contains-none y c)
contains-kept {X = X} p (x ∷ xs) y c passes = by (p x) refl (contains-cases x xs y c) (λ later. contains-kept p xs y later passes)
  where
    by : (b : Bool) → p x ≡ b → (x ≡ y) ⊎ Contains xs y → (Contains xs y → Contains (filter p xs) y) → Contains (cond b (x ∷ filter p xs) (filter p xs)) y
    by true is (inl same) rest = subst (λ z. Contains (x ∷ filter p xs) z) same (contains-first x (filter p xs))
    by true is (inr later) rest = contains-later x (filter p xs) y (rest later)
    by false fails (inl same) rest = both_ways (p x) (ap p same ∙ passes) fails
    by false fails (inr later) rest = rest later

-- a list and one more, if it belongs there
pub contains-if : {X : Type 0} (b : Bool) (xs : List X) (x y : X) → Contains (xs ++ cond b (x ∷ []) []) y → Contains xs y ⊎ ((b ≡ true) × (x ≡ y))
contains-if true xs x y c = elim (Contains-append_cases xs (x ∷ []) y c) [
  | inl old ↦ inl old
  | inr new ↦ elim (contains-cases x [] y new) [ inl is ↦ inr (refl, is) | inr none ↦ absurd (contains-none y none) ]
]
contains-if false xs x y c = elim (Contains-append_cases xs [] y c) [ inl old ↦ inl old | inr none ↦ absurd (contains-none y none) ]

pub contains-if_back : {X : Type 0} (b : Bool) (xs : List X) (x y : X) → Contains xs y ⊎ ((b ≡ true) × (x ≡ y)) → Contains (xs ++ cond b (x ∷ []) []) y
contains-if_back b xs x y (inl old) = Contains-append_left xs (cond b (x ∷ []) []) y old
contains-if_back {X = X} true xs x y (inr (is, same)) = Contains-append_right xs (x ∷ []) y (subst (λ (z : X). Contains (x ∷ []) z) same (contains-first x []))
contains-if_back false xs x y (inr (is, same)) = contrary is

-- ids of one number are one
pub same_id : (a b : RecId) → (a.0 == b.0) ≡ true → a ≡ b
same_id a b e = ap (λ n. record { 0 = n }) (eqb-true a.0 b.0 e)

-- a test finds an id among ids exactly if they contain it
pub any-contains : (id : RecId) (ids : List RecId) → list_any (λ other. other.0 == id.0) ids ≡ true → Contains ids id
any-contains id [] h = contrary h
any-contains id (x ∷ ids) h = by (x.0 == id.0) refl h (λ any. any-contains id ids any)
  where
    by : (b : Bool) → (x.0 == id.0) ≡ b → (b || list_any (λ other. other.0 == id.0) ids) ≡ true → (list_any (λ other. other.0 == id.0) ids ≡ true → Contains ids id) → Contains (x ∷ ids) id
    by true same any again = subst (λ (z : RecId). Contains (x ∷ ids) z) (same_id x id same) (contains-first x ids)
    by false same any again = contains-later x ids id (again any)

either : (a b : Bool) → (a ≡ true) ⊎ (b ≡ true) → (a || b) ≡ true
either true b h = refl
either false b (inl h) = contrary h
either false b (inr h) = h

pub contains-any : (id : RecId) (ids : List RecId) → Contains ids id → list_any (λ other. other.0 == id.0) ids ≡ true
contains-any id [] c = absurd (contains-none id c)
contains-any id (x ∷ ids) c = elim (contains-cases x ids id c) [
  | inl is ↦ either (x.0 == id.0) (list_any (λ other. other.0 == id.0) ids) (inl (eq-eqb x.0 id.0 (ap (λ i. i.0) is)))
  | inr later ↦ either (x.0 == id.0) (list_any (λ other. other.0 == id.0) ids) (inr (contains-any id ids later))
]

-- a key that is put in is contained beside those before
contains_ordered : {A : Type 0} (o : Ordering) (k x : A) (ks rest : List A) (y : A) → (o ≡ Equal → k ≡ x) → Contains rest y ↔ (Contains ks y ⊎ (k ≡ y))
    → Contains (match_ordering o (k ∷ x ∷ ks) (x ∷ ks) (x ∷ rest)) y ↔ (Contains (x ∷ ks) y ⊎ (k ≡ y))
contains_ordered {A = A} Less k x ks rest y same more = (to, from)
  where
    to : Contains (k ∷ x ∷ ks) y → Contains (x ∷ ks) y ⊎ (k ≡ y)
    to c = elim (contains-cases k (x ∷ ks) y c) [ inl is ↦ inr is | inr later ↦ inl later ]

    from : Contains (x ∷ ks) y ⊎ (k ≡ y) → Contains (k ∷ x ∷ ks) y
    from (inl later) = contains-later k (x ∷ ks) y later
    from (inr is) = subst (λ (z : A). Contains (k ∷ x ∷ ks) z) is (contains-first k (x ∷ ks))
contains_ordered {A = A} Equal k x ks rest y same more = (λ c. inl c, from)
  where
    from : Contains (x ∷ ks) y ⊎ (k ≡ y) → Contains (x ∷ ks) y
    from (inl c) = c
    from (inr is) = subst (λ (z : A). Contains (x ∷ ks) z) (sym (same refl) ∙ is) (contains-first x ks)
contains_ordered {A = A} Greater k x ks rest y same more = (to, from)
  where
    to : Contains (x ∷ rest) y → Contains (x ∷ ks) y ⊎ (k ≡ y)
    to c = elim (contains-cases x rest y c) [
      | inl is ↦ inl (subst (λ (z : A). Contains (x ∷ ks) z) is (contains-first x ks))
      | inr later ↦ elim (more.0 later) [ inl old ↦ inl (contains-later x ks y old) | inr is ↦ inr is ]
    ]

    from : Contains (x ∷ ks) y ⊎ (k ≡ y) → Contains (x ∷ rest) y
    from (inr is) = contains-later x rest y (more.1 (inr is))
    from (inl c) = elim (contains-cases x ks y c) [
      | inl is ↦ subst (λ (z : A). Contains (x ∷ rest) z) is (contains-first x rest)
      | inr later ↦ contains-later x rest y (more.1 (inl later))
    ]

pub contains-insert : {A : Type 0} (cmp : A → A → Ordering) (k : A) (ks : List A) → ((x : A) → cmp k x ≡ Equal → k ≡ x) → (y : A) → Contains (insert_key cmp ks k) y ↔ (Contains ks y ⊎ (k ≡ y))
contains-insert {A = A} cmp k [] same y = (to, from)
  where
    to : Contains (k ∷ []) y → Contains [] y ⊎ (k ≡ y)
    to c = elim (contains-cases k [] y c) [ inl is ↦ inr is | inr none ↦ inl none ]

    from : Contains [] y ⊎ (k ≡ y) → Contains (k ∷ []) y
    from (inl none) = absurd (contains-none y none)
    from (inr is) = subst (λ (z : A). Contains (k ∷ []) z) is (contains-first k [])
contains-insert cmp k (x ∷ ks) same y = contains_ordered (cmp k x) k x ks (insert_key cmp ks k) y (same x) (contains-insert cmp k ks same y)

same_number : (k x : RecId) → nat_cmp k.0 x.0 ≡ Equal → k ≡ x
same_number k x e = ap (λ (n : ℕ). let id : RecId = record { 0 = n } in id) (nat_cmp-IsAntisymmetric k.0 x.0 e)

-- so is an id
pub id-inserted : (ks new : List RecId) (k : RecId) → new ≡ insert_key (λ (a : RecId) (b : RecId). nat_cmp a.0 b.0) ks k → (y : RecId) → Contains new y ↔ (Contains ks y ⊎ (k ≡ y))
id-inserted ks new k is y =
    let put = contains-insert (λ (a : RecId) (b : RecId). nat_cmp a.0 b.0) k ks (same_number k) y in
    (λ c. put.0 (subst (λ (l : List RecId). Contains l y) is c), λ either. subst (λ (l : List RecId). Contains l y) (sym is) (put.1 either))

-- the first so many and the next are the first so many more
pub contains-more : {A : Type 0} (xs : List A) (i : ℕ) (d y : A) → i < length xs → Contains (take (i + 1) xs) y ↔ (Contains (take i xs) y ⊎ (get_or xs i d ≡ y))
contains-more {A = A} xs i d y within =
    let is : take (i + 1) xs ≡ take i xs ++ get_or xs i d ∷ [] = take_more xs i d within in (
      λ c. Contains-push_cases (take i xs) (get_or xs i d) y (subst (λ (l : List A). Contains l y) is c),
      λ either. subst (λ (l : List A). Contains l y) (sym is) (from either),
    )
  where
    from : Contains (take i xs) y ⊎ (get_or xs i d ≡ y) → Contains (take i xs ++ get_or xs i d ∷ []) y
    from (inl c) = Contains-append_left (take i xs) (get_or xs i d ∷ []) y c
    from (inr is) = subst (λ (z : A). Contains (take i xs ++ get_or xs i d ∷ []) z) is (Contains-push (take i xs) (get_or xs i d))

-- ids beside ids, one more at a time
pub ids-more : (ids old now new : List RecId) (i : ℕ) (d : RecId) → i < length ids → ((y : RecId) → Contains new y ↔ (Contains now y ⊎ (get_or ids i d ≡ y)))
    → ((y : RecId) → Contains now y ↔ (Contains old y ⊎ Contains (take i ids) y)) → (y : RecId) → Contains new y ↔ (Contains old y ⊎ Contains (take (i + 1) ids) y)
ids-more ids old now new i d within step before y = (to, from)
  where
    more : Contains (take (i + 1) ids) y ↔ (Contains (take i ids) y ⊎ (get_or ids i d ≡ y))
    more = contains-more ids i d y within

    to : Contains new y → Contains old y ⊎ Contains (take (i + 1) ids) y
    to c = elim ((step y).0 c) [
      | inr is ↦ inr (more.1 (inr is))
      | inl was ↦ elim ((before y).0 was) [ inl had ↦ inl had | inr front ↦ inr (more.1 (inl front)) ]
    ]

    from : Contains old y ⊎ Contains (take (i + 1) ids) y → Contains new y
    from (inl had) = (step y).1 (inl ((before y).1 (inl had)))
    from (inr c) = elim (more.0 c) [ inl front ↦ (step y).1 (inl ((before y).1 (inr front))) | inr is ↦ (step y).1 (inr is) ]

-- one of the first so many and the next are the first so many more
pub any_more : {X : Type 0} (P : X → Type 0) (xs : List X) (i : ℕ) (d : X) → i < length xs → (Any P (take i xs) ⊎ P (get_or xs i d)) ↔ Any P (take (i + 1) xs)
any_more P [] i d within = absurd (omega arith)
any_more {X = X} P (x ∷ xs) zero d within = subst (λ (l : List X). (Any P [] ⊎ P x) ↔ Any P l) (sym one) (to, from)
  where
    one : take (0 + 1) (x ∷ xs) ≡ x ∷ []
    one = refl

    to : Any P [] ⊎ P x → Any P (x ∷ [])
    to (inl none) = absurd (Any-none P none)
    to (inr such) = Any-first P x [] such

    from : Any P (x ∷ []) → Any P [] ⊎ P x
    from any = elim (Any-cases P x [] any) [ inl such ↦ inr such | inr none ↦ inl none ]
any_more {X = X} P (x ∷ xs) (suc i) d within = behind (any_more P xs i d (omega arith))
  where
    to : ((Any P (take i xs) ⊎ P (get_or xs i d)) ↔ Any P (take (i + 1) xs)) → Any P (x ∷ take i xs) ⊎ P (get_or xs i d) → Any P (x ∷ take (i + 1) xs)
    to rest (inr such) = Any-later P x (take (i + 1) xs) (rest.0 (inr such))
    to rest (inl any) = elim (Any-cases P x (take i xs) any) [
      | inl such ↦ Any-first P x (take (i + 1) xs) such
      | inr later ↦ Any-later P x (take (i + 1) xs) (rest.0 (inl later))
    ]

    from : ((Any P (take i xs) ⊎ P (get_or xs i d)) ↔ Any P (take (i + 1) xs)) → Any P (x ∷ take (i + 1) xs) → Any P (x ∷ take i xs) ⊎ P (get_or xs i d)
    from rest any = elim (Any-cases P x (take (i + 1) xs) any) [
      | inl such ↦ inl (Any-first P x (take i xs) such)
      | inr later ↦ elim (rest.1 later) [ inl before ↦ inl (Any-later P x (take i xs) before) | inr such ↦ inr such ]
    ]

    next : take (suc i + 1) (x ∷ xs) ≡ x ∷ take (i + 1) xs
    next = let one : suc i + 1 ≡ suc (i + 1) = omega arith in ap (λ (n : ℕ). take n (x ∷ xs)) one

    behind : ((Any P (take i xs) ⊎ P (get_or xs i d)) ↔ Any P (take (i + 1) xs)) → (Any P (x ∷ take i xs) ⊎ P (get_or xs i d)) ↔ Any P (take (suc i + 1) (x ∷ xs))
    behind rest = subst (λ (l : List X). (Any P (x ∷ take i xs) ⊎ P (get_or xs i d)) ↔ Any P l) (sym next) (to rest, from rest)

-- of one of a list more is known
pub any_on : {X : Type 0} (P Q : X → Type 0) (xs : List X) → ((x : X) → P x → Q x) → Any P xs → Any Q xs
any_on P Q xs on (k, y, within, is, p) = (k, y, within, is, on y p)

pub any_one : {X : Type 0} (P : X → Type 0) (xs : List X) → Any P xs → (x : X) × Contains xs x × P x
any_one P xs (k, y, within, is, p) = (y, (k, within, is), p)

pub any_is : {X : Type 0} (P : X → Type 0) (xs : List X) (x : X) → Contains xs x → P x → Any P xs
any_is P xs x (k, within, is) p = (k, x, within, is, p)
