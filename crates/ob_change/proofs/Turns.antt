-- Lists that are gone through until one is met: what is known of those so far, and what an answer tells.
use Rattle.std.proofs.Common.{◌≡◌, ◌<◌, ◌≤◌, ◌+◌, ℕ, List, [], ◌∷◌, Option, Some, None, get_or, length, sym, subst, arith}
use Rattle.std.specs.Prelude.{Any, Contains, slice_get}
use Rattle.std.specs.List.{AllWithin}
use Rattle.std.proofs.lemmas.List.{get_or_default}
use Rattle.std.proofs.lemmas.List.Elements.{AllWithin-more, AllWithin-none}
use Rattle.ob_schema.proofs.CallerLemmas.{contains-first, contains-none}
use Rattle.ob_change.specs.Testing.{TellsOne}

-- none of the first numbers is such
abbrev pub NoneBelow : (ℕ → Type 0) → ℕ → Type 0
NoneBelow P n = (k : ℕ) → k < n → P k → ⊥

-- none of the first of a list is such
abbrev pub NoneOf : {X : Type 0} → (X → Type 0) → List X → ℕ → Type 0
NoneOf P xs n = AllWithin (λ x. P x → ⊥) xs 0 n

module _ {X : Type 0} (P : X → Type 0) (xs : List X) where
  pub none-met : NoneOf P xs 0
  none-met = AllWithin-none (λ x. P x → ⊥) xs 0

  pub none-more : (i : ℕ) (d : X) → i < length xs → NoneOf P xs i → (P (get_or xs i d) → ⊥) → NoneOf P xs (i + 1)
  none-more i d low none not = AllWithin-more (λ x. P x → ⊥) xs 0 i none (λ e is. not (subst P (get_or_default xs i e d low) is))

  pub none-read : (i : ℕ) (x : X) → i < length xs → x ≡ get_or xs i x → NoneOf P xs i → (P x → ⊥) → NoneOf P xs (i + 1)
  none-read i x low at none not = none-more i x low none (λ is. not (subst P (sym at) is))

  pub none-end : (i : ℕ) → length xs ≤ i → NoneOf P xs i → Any P xs → ⊥
  none-end i end none (k, x, low, at, is) = none k x (omega arith) (omega arith) (subst P (sym at) is)

  pub one-met : (i : ℕ) (d : X) → i < length xs → P (get_or xs i d) → Any P xs
  one-met i d low is = (i, get_or xs i d, low, get_or_default xs i (get_or xs i d) d low, is)

  pub one-read : (i : ℕ) (x : X) → i < length xs → x ≡ get_or xs i x → P x → Any P xs
  one-read i x low at is = (i, x, low, sym at, is)

  pub all-more : (i : ℕ) (d : X) → i < length xs → AllWithin P xs 0 i → P (get_or xs i d) → AllWithin P xs 0 (i + 1)
  all-more i d low all is = AllWithin-more P xs 0 i all (λ e. subst P (get_or_default xs i d e low) is)

-- what a search told, by its answer
pub one-told : {X : Type 0} (P : X → Type 0) (o : Option X) (x : X) → o ≡ Some x → TellsOne P o → P x
one-told P o x is = subst (TellsOne P) is

pub none-told : {X : Type 0} (P : X → Type 0) (o : Option X) → o ≡ None → TellsOne P o → (x : X) → P x → ⊥
none-told P o is = subst (TellsOne P) is

-- the first of a list is one of it, or there is none
pub first-told : {X : Type 0} (xs : List X) (o : Option X) → o ≡ slice_get xs 0 → TellsOne (Contains xs) o
first-told {X} [] o is = subst (TellsOne (Contains [])) (sym is) (λ (x : X). contains-none x)
first-told {X} (x ∷ xs) o is = subst (TellsOne (Contains (x ∷ xs))) (sym is) (contains-first x xs)

-- one of these is such as well, and none other is
pub told-as : {X : Type 0} (P Q : X → Type 0) (o : Option X) → ((x : X) → P x → Q x) → ((x : X) → Q x → P x) → TellsOne P o → TellsOne Q o
told-as P Q (Some x) to from told = to x told
told-as P Q None to from told = λ x is. told x (from x is)
