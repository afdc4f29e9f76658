-- What a look-up in a list finds, and what one list of names has as another.
use Rattle.std.proofs.Common.{◌≡◌, ◌⊎◌, inl, inr, ℕ, zero, suc, ◌<◌, Bool, true, false, cond, ltb, List, [], ◌∷◌, length, map, Some, None, refl, sym, ap, subst, ◌∙◌, arith}
use Rattle.std.specs.Prelude.{Contains}
use Rattle.std.specs.List.{filter, find, position, position_or_len}
use Rattle.std.proofs.lemmas.List.Folds.{find_at}
use Rattle.std.proofs.lemmas.Option.{slice_get_cases}
use Rattle.std.proofs.lemmas.Bool.Decides.{nat_tests}
use Rattle.std.specs.Str.{bytes_eq}
use Rattle.std.proofs.lemmas.Bool.{false≢true}
use Rattle.std.proofs.lemmas.Slice.Eq.{bytes_eq-Decides}
use Rattle.ob_definition.specs.Members.{Member, named}

-- one of a list is its first or behind it
pub contains-cases : {X : Type 0} (x : X) (xs : List X) (y : X) → Contains (x ∷ xs) y → (x ≡ y) ⊎ Contains xs y
contains-cases x xs y (zero, within, is) = inl is
contains-cases x xs y (suc k, within, is) = inr (k, omega (arith, within), is)

pub contains-first : {X : Type 0} (x : X) (xs : List X) → Contains (x ∷ xs) x
contains-first x xs = (zero, omega arith, refl)

pub contains-later : {X : Type 0} (x : X) (xs : List X) (y : X) → Contains xs y → Contains (x ∷ xs) y
contains-later x xs y (k, within, is) = (suc k, omega (arith, within), is)

pub contains-none : {X : Type 0} (y : X) → Contains [] y → ⊥
contains-none y (k, within, is) = omega (arith, within)

-- one of the values is the value of one
pub contains-map : {X Y : Type 0} (f : X → Y) (xs : List X) (y : Y) → Contains (map f xs) y → (x : X) × Contains xs x × (f x ≡ y)
contains-map f [] y c = absurd (contains-none y c)
contains-map f (x ∷ xs) y c = elim (contains-cases (f x) (map f xs) y c) [
  | inl is ↦ (x, contains-first x xs, is)
  | inr later ↦ (let w = contains-map f xs y later in (w.0, contains-later x xs w.0 w.1, w.2))
]

pub contains-mapped : {X Y : Type 0} (f : X → Y) (xs : List X) (x : X) → Contains xs x → Contains (map f xs) (f x)
contains-mapped f [] x c = absurd (contains-none x c)
contains-mapped f (z ∷ xs) x c = elim (contains-cases z xs x c) [
  | inl is ↦ subst (λ y. Contains (f z ∷ map f xs) (f y)) is (contains-first (f z) (map f xs))
  | inr later ↦ contains-later (f z) (map f xs) (f x) (contains-mapped f xs x later)
]

-- one that a filter keeps is one of the list
pub contains-filter : {X : Type 0} (p : X → Bool) (xs : List X) (y : X) → Contains (filter p xs) y → Contains xs y
contains-filter p [] y c = c
contains-filter p (x ∷ xs) y c = by (p x) c (λ later. contains-filter p xs y later)
  where
    by : (b : Bool) → Contains (cond b (x ∷ filter p xs) (filter p xs)) y → (Contains (filter p xs) y → Contains xs y) → Contains (x ∷ xs) y
    by true c rest = elim (contains-cases x (filter p xs) y c) [
      | inl is ↦ subst (λ z. Contains (x ∷ xs) z) is (contains-first x xs)
      | inr later ↦ contains-later x xs y (rest later)
    ]
    by false c rest = contains-later x xs y (rest c)

-- what is found is one of the list, and passes
pub found-among : {X : Type 0} (p : X → Bool) (xs : List X) (y : X) → find p xs ≡ Some y → Contains xs y × (p y ≡ true)
found-among p [] y e = absurd (cc)
found-among {X} p (x ∷ xs) y e = by (p x) refl e (λ f. found-among p xs y f)
  where
    by : (b : Bool) → p x ≡ b → cond b (Some x) (find p xs) ≡ Some y → (find p xs ≡ Some y → Contains xs y × (p y ≡ true)) → Contains (x ∷ xs) y × (p y ≡ true)
    by true passes e rest = let same : x ≡ y = cc in (subst (λ z. Contains (x ∷ xs) z) same (contains-first x xs), subst (λ z. p z ≡ true) same passes)
    by false fails e rest = let w = rest e in (contains-later x xs y w.0, w.1)

-- one that passes is found, or one before it
pub found-one : {X : Type 0} (p : X → Bool) (xs : List X) (y : X) → Contains xs y → p y ≡ true → (z : X) × (find p xs ≡ Some z)
found-one p [] y c passes = absurd (contains-none y c)
found-one {X} p (x ∷ xs) y c passes = by (p x) refl (λ later. found-one p xs y later passes)
  where
    by : (b : Bool) → p x ≡ b → (Contains xs y → (z : X) × (find p xs ≡ Some z)) → (z : X) × (cond b (Some x) (find p xs) ≡ Some z)
    by true is rest = (x, refl)
    by false fails rest = elim (contains-cases x xs y c) [
      | inl is ↦ absurd (false≢true (sym fails ∙ ap p is ∙ passes))
      | inr later ↦ rest later
    ]

-- the field that a name finds has that name
pub named-among : (members : List Member) (name : List ℕ) (m : Member) → named members name ≡ Some m → Contains members m
named-among members name m e = (found-among (λ n. bytes_eq n.def.name name) members m e).0

pub named-is : (members : List Member) (name : List ℕ) (m : Member) → named members name ≡ Some m → m.def.name ≡ name
named-is members name m e = (bytes_eq-Decides m.def.name name).0 (found-among (λ n. bytes_eq n.def.name name) members m e).1

-- a field's name finds one of its name
pub named-one : (members : List Member) (name : List ℕ) (m : Member) → Contains members m → m.def.name ≡ name → (found : Member) × (named members name ≡ Some found)
named-one members name m c is = found-one (λ n. bytes_eq n.def.name name) members m c ((bytes_eq-Decides m.def.name name).1 is)

-- what is found has a place
pub found-placed : {X : Type 0} (p : X → Bool) (xs : List X) (y : X) → find p xs ≡ Some y → (i : ℕ) × (position p xs ≡ Some i)
found-placed p xs y e = elim (slice_get_cases xs (position_or_len p xs)).1 [
  | inl found ↦ (
    position_or_len p xs,
    (let low : ltb (position_or_len p xs) (length xs) ≡ true = let within : position_or_len p xs < length xs = found.1 in grind (arith, nat_tests) in
        ap (λ (b : Bool). cond b (Some (position_or_len p xs)) None) low),
  )
  | inr past ↦ (let none : find p xs ≡ None = find_at p xs ∙ past.1 in absurd (cc))
]
