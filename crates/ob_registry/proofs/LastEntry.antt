-- The greatest number of a list's items, where a loop takes one item after another.
use Rattle.std.proofs.Common.{◌≡◌, ◌≢◌, ◌⊎◌, inl, inr, ℕ, zero, suc, ◌+◌, ◌<◌, ◌≤◌, List, [], ◌∷◌, ◌++◌, length, map, take, get_or, refl, sym, ap, subst, ◌∙◌, arith}
use Rattle.std.specs.Prelude.{All, Any}
use Rattle.std.specs.Ordering.{nat_cmp, ord_max}
use Rattle.std.proofs.lemmas.Bool.Decides.{nat_tests}
use Rattle.std.proofs.lemmas.List.Elements.{All-nil, All-map, All-push, All-weaker}
use Rattle.std.proofs.lemmas.List.{take-map}
use Rattle.ob_registry.specs.declared.model.Member.{Member as KeptMember}
use Rattle.ob_registry.specs.ModelFields.{member_of, named_in}
use Rattle.ob_definition.proofs.CallerLemmas.{Any-before, Any-last, next_front}

-- none is above it, and one of some items has it; of no items it is 0
pub record IsLast {X : Type 0} (e : X → ℕ) (xs : List X) (last : ℕ) : Type 0 where
  pub above : All (λ x. e x ≤ last) xs
  pub among : xs ≢ [] → Any (λ x. e x ≡ last) xs
  pub none : xs ≡ [] → last ≡ 0

pub IsLast-none : {X : Type 0} (e : X → ℕ) → IsLast e [] 0
IsLast-none e = record { above = All-nil (λ x. e x ≤ 0); among = λ some. absurd (some refl); none = λ _. refl }

-- a list has items or none
empty_or : {X : Type 0} (xs : List X) → (xs ≡ []) ⊎ (xs ≢ [])
empty_or [] = inl refl
empty_or (x ∷ xs) = inr (λ e. absurd (cc))

pushed_some : {X : Type 0} (xs : List X) (x : X) → xs ++ x ∷ [] ≡ [] → ⊥
pushed_some [] x e = cc
pushed_some (y ∷ xs) x e = cc

among_pushed : {X : Type 0} (e : X → ℕ) (xs : List X) (x : X) (last next : ℕ) → IsLast e xs last → ((next ≡ last) × (e x ≤ last)) ⊎ ((next ≡ e x) × (last ≤ e x)) → Any (λ y. e y ≡ next) (xs ++ x ∷ [])
among_pushed e xs x last next is (inr more) = Any-last (λ y. e y ≡ next) xs x (sym more.0)
among_pushed e xs x last next is (inl less) =
    elim (empty_or xs) as (λ _. Any (λ y. e y ≡ next) (xs ++ x ∷ [])) [
      | inl none ↦ (let zero : last ≡ 0 = is.none none in Any-last (λ y. e y ≡ next) xs x (omega arith))
      | inr some ↦ subst (λ (n : ℕ). Any (λ y. e y ≡ n) (xs ++ x ∷ [])) (sym less.0) (Any-before (λ y. e y ≡ last) xs x (is.among some))
    ]

-- one more item, whose number may be greater
pub IsLast-pushed : {X : Type 0} (e : X → ℕ) (xs : List X) (x : X) (last next : ℕ) → IsLast e xs last → ((next ≡ last) × (e x ≤ last)) ⊎ ((next ≡ e x) × (last ≤ e x)) → IsLast e (xs ++ x ∷ []) next
IsLast-pushed e xs x last next is which = record {
  above = All-push (λ y. e y ≤ next) xs x (All-weaker (λ y. e y ≤ last) (λ y. e y ≤ next) (λ y below. omega (arith, below, which)) xs is.above) (omega (arith, which));
  among = λ _. among_pushed e xs x last next is which;
  none = λ none. absurd (pushed_some xs x none);
}

pub IsLast-more : {X : Type 0} (e : X → ℕ) (xs : List X) (i : ℕ) (x : X) (last next : ℕ) → i < length xs → x ≡ get_or xs i x → IsLast e (take i xs) last → ((next ≡ last) × (e x ≤ last)) ⊎ ((next ≡ e x) × (last ≤ e x))
    → IsLast e (take (i + 1) xs) next
IsLast-more {X} e xs i x last next within is so_far which = subst (λ (l : List X). IsLast e l next) (next_front xs i x within is) (IsLast-pushed e (take i xs) x last next so_far which)

pub Any-map : {X Y : Type 0} (P : Y → Type 0) (f : X → Y) (xs : List X) → Any (λ x. P (f x)) xs → Any P (map f xs)
Any-map P f [] (k, x, within, is, p) = absurd (omega (arith, within))
Any-map P f (y ∷ xs) (zero, x, within, is, p) = (zero, f x, omega arith, ap f is, p)
Any-map P f (y ∷ xs) (suc k, x, within, is, p) = let w = Any-map P f xs (k, x, omega (arith, within), is, p) in (suc w.0, w.1, omega (arith, w.2), w.3, w.4)

-- the greater of two numbers
pub either_max : (last own next : ℕ) → next ≡ ord_max nat_cmp last own → ((next ≡ last) × (own ≤ last)) ⊎ ((next ≡ own) × (last ≤ own))
either_max last own next e = grind (arith, nat_tests, e)

-- the same of the named fields
pub named_above : (named : ℕ) (items : List KeptMember) (last : ℕ) → IsLast (λ m. m.entry) (take named items) last → All (λ m. m.entry ≤ last) (named_in named items)
named_above named items last is = subst (λ l. All (λ m. m.entry ≤ last) l) (sym (take-map member_of named items)) (All-map (λ m. m.entry ≤ last) member_of (take named items) is.above)

named_some : (named : ℕ) (items : List KeptMember) → named_in named items ≢ [] → take named items ≢ []
named_some named items some none = some (take-map member_of named items ∙ ap (map member_of) none)

pub named_among : (named : ℕ) (items : List KeptMember) (last : ℕ) → IsLast (λ m. m.entry) (take named items) last → named_in named items ≢ [] → Any (λ m. m.entry ≡ last) (named_in named items)
named_among named items last is some =
    subst (λ l. Any (λ m. m.entry ≡ last) l) (sym (take-map member_of named items)) (Any-map (λ m. m.entry ≡ last) member_of (take named items) (is.among (named_some named items some)))
