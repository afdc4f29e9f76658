-- One of a list, by a test of each.
use Rattle.std.proofs.Common.{◌≡◌, ◌⊎◌, inl, inr, ℕ, zero, suc, ◌<◌, Bool, true, false, ◌||◌, List, [], ◌∷◌, length, get_or, map, refl, sym, subst, arith}
use Rattle.std.specs.Prelude.{Any, Contains}
use Rattle.std.specs.Bool.{Decides, MatchBool}
use Rattle.std.specs.List.{AllWithin, HoldsAt, list_any}
use Rattle.std.proofs.lemmas.Bool.{false≢true}

-- one of a list is its first or behind it
pub Any-cases : {X : Type 0} (P : X → Type 0) (x : X) (xs : List X) → Any P (x ∷ xs) → P x ⊎ Any P xs
Any-cases P x xs (zero, y, within, is, p) = inl (subst P (sym is) p)
Any-cases P x xs (suc k, y, within, is, p) = inr (k, y, omega (arith, within), is, p)

pub Any-first : {X : Type 0} (P : X → Type 0) (x : X) (xs : List X) → P x → Any P (x ∷ xs)
Any-first P x xs p = (zero, x, omega arith, refl, p)

pub Any-later : {X : Type 0} (P : X → Type 0) (x : X) (xs : List X) → Any P xs → Any P (x ∷ xs)
Any-later P x xs (k, y, within, is, p) = (suc k, y, omega (arith, within), is, p)

pub Any-none : {X : Type 0} (P : X → Type 0) → Any P [] → ⊥
Any-none P (k, y, within, is, p) = omega (arith, within)

-- what holds of one holds of one of them
pub Any-on : {X : Type 0} (P Q : X → Type 0) (xs : List X) → ((x : X) → P x → Q x) → Any P xs → Any Q xs
Any-on P Q xs on (k, y, within, is, p) = (k, y, within, is, on y p)

-- what holds of each and of one
pub Any-among : {X : Type 0} (P Q : X → Type 0) (xs : List X) → ((x : X) → Contains xs x → P x → Q x) → Any P xs → Any Q xs
Any-among P Q xs on (k, y, within, is, p) = (k, y, within, is, on y (k, within, is) p)

pub Any-is : {X : Type 0} (P : X → Type 0) (xs : List X) (x : X) → Contains xs x → P x → Any P xs
Any-is P xs x (k, within, is) p = (k, x, within, is, p)

-- a test of each decides whether one of the values is such
pub Any-tested : {X Y : Type 0} (f : X → Y) (P : Y → Type 0) (test : X → Bool) → ((x : X) → Decides (test x) (P (f x))) → (xs : List X) → Decides (list_any test xs) (Any P (map f xs))
Any-tested f P test each [] = (λ e. absurd (false≢true e), λ any. absurd (Any-none P any))
Any-tested f P test each (x ∷ xs) = by (test x) (each x) (Any-tested f P test each xs)
  where
    by : (b : Bool) → Decides b (P (f x)) → Decides (list_any test xs) (Any P (map f xs)) → Decides (b || list_any test xs) (Any P (f x ∷ map f xs))
    by true is rest = (λ e. Any-first P (f x) (map f xs) (is.0 refl), λ any. refl)
    by false is rest = (
      λ e. Any-later P (f x) (map f xs) (rest.0 e),
      λ any. elim (Any-cases P (f x) (map f xs) any) [ inl p ↦ absurd (false≢true (is.1 p)) | inr later ↦ rest.1 later ],
    )

-- an answer that says of each whether it is such
one_at : {X Y : Type 0} (f : X → Y) (P : Y → Type 0) (xs : List X) → (k : ℕ) × (k < length xs) × HoldsAt (λ x. P (f x)) xs k → Any P (map f xs)
one_at f P [] (k, within, holds) = absurd (omega (arith, within))
one_at f P (x ∷ xs) (zero, within, holds) = Any-first P (f x) (map f xs) (holds x)
one_at f P (x ∷ xs) (suc k, within, holds) = Any-later P (f x) (map f xs) (one_at f P xs (k, omega (arith, within), holds))

none_at : {X Y : Type 0} (f : X → Y) (P : Y → Type 0) (xs : List X) → ((k : ℕ) (d : X) → k < length xs → P (f (get_or xs k d)) → ⊥) → Any P (map f xs) → ⊥
none_at f P [] h any = Any-none P any
none_at f P (x ∷ xs) h any = elim (Any-cases P (f x) (map f xs) any) [
  | inl p ↦ h 0 x (omega arith) p
  | inr later ↦ none_at f P xs (λ k d within. h (suc k) d (omega arith)) later
]

pub Any-answered : {X Y : Type 0} (f : X → Y) (P : Y → Type 0) (xs : List X) (r : Bool)
    → MatchBool r ((k : ℕ) × (k < length xs) × HoldsAt (λ x. P (f x)) xs k) (AllWithin (λ x. P (f x) → ⊥) xs 0 (length xs)) → (r ≡ true → Any P (map f xs)) × (Any P (map f xs) → r ≡ true)
Any-answered f P xs true h = (λ e. one_at f P xs h, λ any. refl)
Any-answered f P xs false h = (λ e. absurd (false≢true e), λ any. absurd (none_at f P xs (λ k d within. h k d (omega arith) within) any))
