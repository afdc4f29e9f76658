-- What lists contain: values, what a test keeps, the first of them and the next.
use Rattle.std.proofs.Common.{◌≡◌, ◌⊎◌, ◌↔◌, ◌<◌, ◌+◌, inl, inr, ℕ, Bool, true, false, cond, not, List, [], ◌∷◌, ◌++◌, map, filter, take, get_or, length, refl, sym, ap, subst, ◌∙◌}
use Rattle.std.specs.Prelude.{All, Any, Contains}
use Rattle.std.proofs.lemmas.List.{take_more}
use Rattle.std.proofs.lemmas.List.Elements.{Contains-append_left, Contains-get_or, Contains-push, Contains-push_cases}
use Rattle.ob_schema.proofs.CallerLemmas.{contains-cases, contains-first, contains-later, contains-none}

pub contrary : {P : Type 0} → false ≡ true → P
contrary e = cc

-- true and false are two
pub both_ways : {P : Type 0} (b : Bool) → b ≡ true → b ≡ false → P
both_ways b is not = contrary (sym not ∙ is)

-- a test passes or fails
pub either_way : (b : Bool) → (b ≡ true) ⊎ (b ≡ false)
either_way true = inl refl
either_way false = inr refl

-- a test that doesn't pass fails
pub fails : (b : Bool) → (b ≡ true → ⊥) → b ≡ false
fails true not = absurd (not refl)
fails false not = refl

-- one whose contrary passes fails
pub denied : (b : Bool) → not b ≡ true → b ≡ false
denied true is = absurd cc
denied false is = refl

-- one whose contrary fails passes
pub affirmed : (b : Bool) → not b ≡ false → b ≡ true
affirmed true is = refl
affirmed false is = absurd cc

-- one of the values is the value of one
pub contains-map : {X Y : Type 0} (f : X → Y) (xs : List X) (y : Y) → Contains (map f xs) y → (x : X) × Contains xs x × (f x ≡ y)
contains-map f [] y c = absurd (contains-none y c)
contains-map f (x ∷ xs) y c = elim (contains-cases (f x) (map f xs) y c) [
  | inl is ↦ (x, contains-first x xs, is)
  | inr later ↦ (let w = contains-map f xs y later in (w.0, contains-later x xs w.0 w.1, w.2))
]

pub contains-mapped : {X Y : Type 0} (f : X → Y) (xs : List X) (x : X) → Contains xs x → Contains (map f xs) (f x)
contains-mapped f [] x c = absurd (contains-none x c)
contains-mapped f (z ∷ xs) x c = elim (contains-cases z xs x c) [
  | inl is ↦ subst (λ y. Contains (f z ∷ map f xs) (f y)) is (contains-first (f z) (map f xs))
  | inr later ↦ contains-later (f z) (map f xs) (f x) (contains-mapped f xs x later)
]

-- one that a test keeps is one of the list and passes it
pub contains-filter : {X : Type 0} (p : X → Bool) (xs : List X) (y : X) → Contains (filter p xs) y → Contains xs y × (p y ≡ true)
contains-filter p [] y c = absurd (contains-none y c)
contains-filter {X = X} p (x ∷ xs) y c = by (p x) refl c (λ later. contains-filter p xs y later)
  where
    by : (b : Bool) → p x ≡ b → Contains (cond b (x ∷ filter p xs) (filter p xs)) y → (Contains (filter p xs) y → Contains xs y × (p y ≡ true)) → Contains (x ∷ xs) y × (p y ≡ true)
    by true passes c rest = elim (contains-cases x (filter p xs) y c) [
      | inl is ↦ (subst (λ z. Contains (x ∷ xs) z) is (contains-first x xs), sym (ap p is) ∙ passes)
      | inr later ↦ (let r = rest later in (contains-later x xs y r.0, r.1))
    ]
    by false fails c rest = let r = rest c in (contains-later x xs y r.0, r.1)

pub contains-kept : {X : Type 0} (p : X → Bool) (xs : List X) (y : X) → Contains xs y → p y ≡ true → Contains (filter p xs) y
contains-kept p [] y c passes = absurd (contains-none y c)
contains-kept {X = X} p (x ∷ xs) y c passes = by (p x) refl (contains-cases x xs y c) (λ later. contains-kept p xs y later passes)
  where
    by : (b : Bool) → p x ≡ b → (x ≡ y) ⊎ Contains xs y → (Contains xs y → Contains (filter p xs) y) → Contains (cond b (x ∷ filter p xs) (filter p xs)) y
    by true is (inl same) rest = subst (λ z. Contains (x ∷ filter p xs) z) same (contains-first x (filter p xs))
    by true is (inr later) rest = contains-later x (filter p xs) y (rest later)
    by false fails (inl same) rest = both_ways (p x) (ap p same ∙ passes) fails
    by false fails (inr later) rest = rest later

-- the first so many and the next are the first so many more
pub contains-more : {A : Type 0} (xs : List A) (i : ℕ) (d y : A) → i < length xs → Contains (take (i + 1) xs) y ↔ (Contains (take i xs) y ⊎ (get_or xs i d ≡ y))
contains-more {A = A} xs i d y within =
    let is : take (i + 1) xs ≡ take i xs ++ get_or xs i d ∷ [] = take_more xs i d within in (
      λ c. Contains-push_cases (take i xs) (get_or xs i d) y (subst (λ (l : List A). Contains l y) is c),
      λ either. subst (λ (l : List A). Contains l y) (sym is) (from either),
    )
  where
    from : Contains (take i xs) y ⊎ (get_or xs i d ≡ y) → Contains (take i xs ++ get_or xs i d ∷ []) y
    from (inl c) = Contains-append_left (take i xs) (get_or xs i d ∷ []) y c
    from (inr is) = subst (λ (z : A). Contains (take i xs ++ get_or xs i d ∷ []) z) is (Contains-push (take i xs) (get_or xs i d))

-- one of a list that has a property
pub any_one : {X : Type 0} (P : X → Type 0) (xs : List X) → Any P xs → (x : X) × Contains xs x × P x
any_one P xs (k, y, within, is, p) = (y, (k, within, is), p)

pub any_is : {X : Type 0} (P : X → Type 0) (xs : List X) (x : X) → Contains xs x → P x → Any P xs
any_is P xs x (k, within, is) p = (k, x, within, is, p)

-- what holds of each that a list contains holds of all
pub all_among : {X : Type 0} (P : X → Type 0) (xs : List X) → ((x : X) → Contains xs x → P x) → All P xs
all_among P xs each = λ k d within. each (get_or xs k d) (Contains-get_or xs k d within)

-- one of the first so many and the next are the first so many more
pub any_more : {X : Type 0} (P : X → Type 0) (xs : List X) (i : ℕ) (d : X) → i < length xs → (Any P (take i xs) ⊎ P (get_or xs i d)) ↔ Any P (take (i + 1) xs)
any_more {X = X} P xs i d within = (to, from)
  where
    to : Any P (take i xs) ⊎ P (get_or xs i d) → Any P (take (i + 1) xs)
    to (inl any) = let one = any_one P (take i xs) any in any_is P (take (i + 1) xs) one.0 ((contains-more xs i d one.0 within).1 (inl one.1)) one.2
    to (inr such) = any_is P (take (i + 1) xs) (get_or xs i d) ((contains-more xs i d (get_or xs i d) within).1 (inr refl)) such

    from : Any P (take (i + 1) xs) → Any P (take i xs) ⊎ P (get_or xs i d)
    from any = let one = any_one P (take (i + 1) xs) any in elim ((contains-more xs i d one.0 within).0 one.1) [
      | inl front ↦ inl (any_is P (take i xs) one.0 front one.2)
      | inr is ↦ inr (subst P (sym is) one.2)
    ]
