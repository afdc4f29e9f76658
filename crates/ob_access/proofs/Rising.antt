-- What stands before an id in a list that rises is below it, and such a list rises without it.
use Rattle.std.proofs.Common.{◌≡◌, ◌<◌, List, [], ◌∷◌, ◌++◌, map, sym}
use Rattle.std.specs.declared.cmp.Ordering.{Ordering}
use Rattle.std.specs.declared.cmp.Ordering.TheVariants.{Less}
use Rattle.std.specs.Ordering.{nat_cmp}
use Rattle.std.specs.List.{All, AllByRecursion}
use Rattle.std.specs.List.Sorted.{IsStrictlySortedBy}
use Rattle.std.proofs.lemmas.Cmp.{ranked}
use Rattle.std.proofs.lemmas.List.Elements.{All-nil, All-cons, All-weaker}
use Rattle.std.proofs.lemmas.Map.Keys.{sorted_head, sorted_tail, sorted_from_strictly_increasing}
use Rattle.ob_base.specs.declared.id.RecId.{RecId}
use Rattle.ob_base.specs.Rising.{IsRising}

-- ids by their numbers
abbrev pub id_cmp : RecId → RecId → Ordering
id_cmp a b = nat_cmp a.0 b.0

module _ {X : Type 0} where
  mid : (P : X → Type 0) (xs : List X) (x : X) (ys : List X) → AllByRecursion P (xs ++ x ∷ ys) → P x
  mid P [] x ys h = h.0
  mid P (a ∷ xs) x ys h = mid P xs x ys h.1

  without : (P : X → Type 0) (xs : List X) (x : X) (ys : List X) → AllByRecursion P (xs ++ x ∷ ys) → AllByRecursion P (xs ++ ys)
  without P [] x ys h = h.1
  without P (a ∷ xs) x ys h = (h.0, without P xs x ys h.1)

  before : (c : X → X → Ordering) (xs : List X) (x : X) (ys : List X) → IsStrictlySortedBy c (xs ++ x ∷ ys) → All (λ q. c q x ≡ Less) xs
  before c [] x ys h = All-nil (λ q. c q x ≡ Less)
  before c (a ∷ xs) x ys h = All-cons (λ q. c q x ≡ Less) a xs (mid (λ y. c a y ≡ Less) xs x ys (sorted_head c a (xs ++ x ∷ ys) h)) (before c xs x ys (sorted_tail c a (xs ++ x ∷ ys) h))

  -- keys in order stay so when one is left out
  pub sorted-without : (c : X → X → Ordering) (xs : List X) (x : X) (ys : List X) → IsStrictlySortedBy c (xs ++ x ∷ ys) → IsStrictlySortedBy c (xs ++ ys)
  unfolding IsStrictlySortedBy
  sorted-without c [] x ys h = h.1
  sorted-without c (a ∷ xs) x ys h = (without (λ y. c a y ≡ Less) xs x ys h.0, sorted-without c xs x ys h.1)

module _ {X B : Type 0} (f : X → B) where
  all-unmap : (P : B → Type 0) (xs : List X) → AllByRecursion P (map f xs) → AllByRecursion (λ x. P (f x)) xs
  all-unmap P [] h = tt
  all-unmap P (x ∷ xs) h = (h.0, all-unmap P xs h.1)

  sorted-unmap : (c : B → B → Ordering) (xs : List X) → IsStrictlySortedBy c (map f xs) → IsStrictlySortedBy (λ a b. c (f a) (f b)) xs
  unfolding IsStrictlySortedBy
  sorted-unmap c [] h = tt
  sorted-unmap c (x ∷ xs) h = (all-unmap (λ y. c (f x) y ≡ Less) xs h.0, sorted-unmap c xs h.1)

pub sorted-from_rising : (ids : List RecId) → IsRising ids → IsStrictlySortedBy id_cmp ids
sorted-from_rising ids h = sorted-unmap (λ id. id.0) nat_cmp ids (sorted_from_strictly_increasing (map (λ id. id.0) ids) h)

-- the ids before one that rise are below it
pub below-next : (ids : List RecId) (id : RecId) (rest : List RecId) → IsStrictlySortedBy id_cmp (ids ++ id ∷ rest) → All (λ b. b.0 < id.0) ids
below-next ids id rest h = All-weaker (λ b. id_cmp b id ≡ Less) (λ b. b.0 < id.0) (λ b e. ranked b.0 id.0 Less (sym e)) ids (before id_cmp ids id rest h)
