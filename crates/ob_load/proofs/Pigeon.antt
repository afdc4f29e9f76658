-- Things that differ pairwise fit into a list only where they are no more than it has.
use Rattle.std.proofs.Common.{◌≡◌, ◌≢◌, inl, inr, ℕ, zero, suc, ◌<◌, ◌≤◌, Bool, true, false, List, [], ◌∷◌, ◌++◌, length, Contains, refl, sym, ap, subst, ◌∙◌, arith}
use Rattle.std.specs.Prelude.{nat_eq, All}
use Rattle.std.specs.List.{IsDistinct}
use Rattle.std.proofs.lemmas.Bool.{cases_eq, false≢true}
use Rattle.std.proofs.lemmas.Bool.Decides.{Decides-eqb}
use Rattle.std.proofs.lemmas.List.Elements.{All-contains, All-from_recursion, All-push, recursion_from_All}
use Rattle.ob_schema.specs.Chains.{HasChain, Reaches, ReachesOver}

-- a list without one of its elements
pub record Without {X : Type 0} (xs : List X) (a : X) : Type 0 where
  pub rest : List X
  pub fewer : length xs ≡ suc (length rest)
  pub keeps : (c : X) → Contains xs c → c ≢ a → Contains rest c

with_first : {X : Type 0} (x : X) (xs : List X) (a : X) → Without xs a → Without (x ∷ xs) a
with_first {X} x xs a less = record { rest = x ∷ less.rest; fewer = ap suc less.fewer; keeps = keeps }
  where
    keeps : (c : X) → Contains (x ∷ xs) c → c ≢ a → Contains (x ∷ less.rest) c
    keeps c (zero, low, same) other = (0, omega arith, same)
    keeps c (suc k, low, same) other = let held = less.keeps c (k, omega (arith, low), same) other in (suc held.0, omega (arith, held.1), held.2)

pub without : {X : Type 0} (xs : List X) (a : X) → Contains xs a → Without xs a
without [] a (k, lt, is) = absurd (omega (arith, lt))
without {X} (x ∷ xs) a (zero, lt, is) = record { rest = xs; fewer = refl; keeps = keeps }
  where
    keeps : (c : X) → Contains (x ∷ xs) c → c ≢ a → Contains xs c
    keeps c (zero, low, same) other = absurd (other (sym same ∙ is))
    keeps c (suc k, low, same) other = (k, omega (arith, low), same)
without (x ∷ xs) a (suc k, lt, is) = with_first x xs a (without xs a (k, omega (arith, lt), is))

-- the numbers below one
abbrev below : ℕ → List ℕ
below zero = []
below (suc n) = n ∷ below n

below-long : (n : ℕ) → length (below n) ≡ n
below-long zero = refl
below-long (suc n) = ap suc (below-long n)

below-has : (n k : ℕ) → k < n → Contains (below n) k
below-has zero k lt = absurd (omega arith)
below-has (suc n) k lt = elim (cases_eq k n) as (λ _. Contains (n ∷ below n) k) [
  | inl same ↦ (0, omega arith, sym same)
  | inr other ↦ (let held = below-has n k (omega (arith, other)) in (suc held.0, omega (arith, held.1), held.2))
]

differs : (x z : ℕ) → nat_eq x z ≡ false → z ≢ x
differs x z off same = absurd (false≢true (sym off ∙ (Decides-eqb x z).1 (sym same)))

no_more : (xs ys : List ℕ) → IsDistinct nat_eq xs → ((x : ℕ) → Contains xs x → Contains ys x) → length xs ≤ length ys
unfolding IsDistinct
no_more [] ys apart all = omega arith
no_more (x ∷ xs) ys (first, apart) all =
    let less = without ys x (all x (0, omega arith, refl)) in
    let others : All (λ z. nat_eq x z ≡ false) xs = All-from_recursion (λ z. nat_eq x z ≡ false) xs first in
    let rest = no_more xs less.rest apart (λ z (k, lt, is). less.keeps z (all z (suc k, omega (arith, lt), is)) (differs x z (All-contains (λ y. nat_eq x y ≡ false) xs z others (k, lt, is)))) in
    let e = less.fewer in omega (arith, rest, e)

-- numbers below one that differ pairwise are no more than it
pub few_below : (xs : List ℕ) (n : ℕ) → IsDistinct nat_eq xs → ((x : ℕ) → Contains xs x → x < n) → length xs ≤ n
few_below xs n apart low = let few = no_more xs (below n) apart (λ x held. below-has n x (low x held)) in let e = below-long n in omega arith

-- one more that differs
pub IsDistinct-push : (xs : List ℕ) (x : ℕ) → IsDistinct nat_eq xs → (Contains xs x → ⊥) → IsDistinct nat_eq (xs ++ x ∷ [])
unfolding IsDistinct
IsDistinct-push [] x apart new = (tt, tt)
IsDistinct-push (y ∷ xs) x (first, apart) new =
    let others : All (λ z. nat_eq y z ≡ false) xs = All-from_recursion (λ z. nat_eq y z ≡ false) xs first in (
      recursion_from_All (λ z. nat_eq y z ≡ false) (xs ++ x ∷ []) (All-push (λ z. nat_eq y z ≡ false) xs x others (apart_from y x (λ same. new (0, omega arith, same)))),
      IsDistinct-push xs x apart (λ (k, lt, is). new (suc k, omega (arith, lt), is)),
    )
  where
    apart_from : (a b : ℕ) → a ≢ b → nat_eq a b ≡ false
    apart_from a b other = by (nat_eq a b) refl
      where
        by : (t : Bool) → nat_eq a b ≡ t → nat_eq a b ≡ false
        by true e = absurd (other ((Decides-eqb a b).0 e))
        by false e = e

module _ {X : Type 0} (Follows : X → X → Type 0) where
  -- where nothing is reached from itself, no chain is as long as a list of all that it passes
  pub no_long_chain : ((a : X) → Reaches Follows a a → ⊥) → (n : ℕ) (xs : List X) (a : X) → length xs ≤ n → Contains xs a → ((b : X) → Reaches Follows a b → Contains xs b) → HasChain Follows n a → ⊥
  no_long_chain acyclic zero xs a few (k, lt, is) all chain = omega (arith, few, lt)
  no_long_chain acyclic (suc n) xs a few there all (b, follows, chain) =
      let less = without xs a there in
      let e = less.fewer in
      no_long_chain acyclic n less.rest b (omega (arith, few, e)) (less.keeps b (all b (0, follows)) (λ same. acyclic a (0, subst (λ (c : X). Follows a c) same follows)))
      (λ c (k, reach). less.keeps c (all c (suc k, (b, follows, reach))) (λ same. acyclic a (suc k, (b, follows, subst (λ (d : X). ReachesOver Follows k b d) same reach)))) chain

  -- what holds of all that follows on it holds of all that is reached
  pub stays : (In Ends : X → Type 0) → ((k : ℕ) (b c : X) → ReachesOver Follows k b c → Ends b) → ((b c : X) → In b → Follows b c → Ends c → In c)
      → (k : ℕ) (a c : X) → ((b : X) → Follows a b → Ends b → In b) → Ends c → ReachesOver Follows k a c → In c
  stays In Ends known step zero a c first ends follows = first c follows ends
  stays In Ends known step (suc k) a c first ends (b, follows, reach) = stays In Ends known step k b c (λ d on end. step b d (first b follows (known k b c reach)) on end) ends reach

  -- one step more
  pub Reaches-more : (k : ℕ) (a b c : X) → ReachesOver Follows k a b → Follows b c → ReachesOver Follows (suc k) a c
  Reaches-more zero a b c follows next = (b, follows, next)
  Reaches-more (suc k) a b c (d, follows, reach) next = (d, follows, Reaches-more k d b c reach next)
