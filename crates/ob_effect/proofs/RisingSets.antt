-- The ids of a set, and of a list that rises: what stands before one is below it.
use Rattle.std.proofs.Common.{◌≡◌, ◌≤◌, ◌<◌, ◌+◌, ◌-◌, ℕ, zero, suc, List, [], ◌∷◌, ◌++◌, map, get_or, length, refl, sym, ap, ◌∙◌, arith}
use Rattle.std.specs.declared.cmp.Ordering.{Ordering}
use Rattle.std.specs.declared.cmp.Ordering.TheVariants.{Less}
use Rattle.std.specs.Ordering.{nat_cmp}
use Rattle.std.specs.List.{All, AllByRecursion}
use Rattle.std.specs.List.Sorted.{IsStrictlySortedBy}
use Rattle.std.proofs.lemmas.Cmp.{ranked}
use Rattle.std.proofs.lemmas.List.{get_or-map, get_or_default, length-map}
use Rattle.std.proofs.lemmas.List.Elements.{All-nil, All-cons, All-push, All-weaker}
use Rattle.std.proofs.lemmas.List.Kept.{AllPairs-from_increasing}
use Rattle.std.proofs.lemmas.Map.Keys.{sorted_head, sorted_tail}
use Rattle.ob_base.specs.declared.id.RecId.{RecId}
use Rattle.ob_base.specs.Rising.{IsRising}

-- ids by their numbers
abbrev pub id_cmp : RecId → RecId → Ordering
id_cmp a b = nat_cmp a.0 b.0

-- ---- sets

module _ {X : Type 0} where
  mid : (P : X → Type 0) (xs : List X) (x : X) (ys : List X) → AllByRecursion P (xs ++ x ∷ ys) → P x
  mid P [] x ys h = h.0
  mid P (a ∷ xs) x ys h = mid P xs x ys h.1

  before : (c : X → X → Ordering) (xs : List X) (x : X) (ys : List X) → IsStrictlySortedBy c (xs ++ x ∷ ys) → All (λ q. c q x ≡ Less) xs
  before c [] x ys h = All-nil (λ q. c q x ≡ Less)
  before c (a ∷ xs) x ys h = All-cons (λ q. c q x ≡ Less) a xs (mid (λ y. c a y ≡ Less) xs x ys (sorted_head c a (xs ++ x ∷ ys) h)) (before c xs x ys (sorted_tail c a (xs ++ x ∷ ys) h))

-- the ids before one that rise are below it
pub below-next : (ids : List RecId) (id : RecId) (rest : List RecId) → IsStrictlySortedBy id_cmp (ids ++ id ∷ rest) → All (λ b. b.0 < id.0) ids
below-next ids id rest h = All-weaker (λ b. id_cmp b id ≡ Less) (λ b. b.0 < id.0) (λ b e. ranked b.0 id.0 Less (sym e)) ids (before id_cmp ids id rest h)

-- ---- lists

-- no id
abbrev pub none : RecId
none = record { 0 = 0 }

-- some ids are below all of a list from a place on
abbrev pub AreBelowFrom : ℕ → List RecId → List RecId → Type 0
AreBelowFrom i ids some = (k : ℕ) → i ≤ k → k < length ids → All (λ before. before.0 < (get_or ids k none).0) some

-- those that are below one from here on are below all from the next on
pub below_past : (i : ℕ) (ids some : List RecId) → AreBelowFrom i ids some → AreBelowFrom (i + 1) ids some
below_past i ids some below k up low = below k (omega arith) low

abbrev named : RecId → ℕ
named id = id.0

rises : (ids : List RecId) → IsRising ids → (i k : ℕ) → i < k → k < length ids → (get_or ids i none).0 < (get_or ids k none).0
rises ids rising i k less low =
    let inside : k < length (map named ids) = omega (arith, length-map ids named) in
    let first : i < length ids = omega arith in
    rw (get_or-map named ids i none, get_or-map named ids k none) at (AllPairs-from_increasing (map named ids) rising i k none.0 less inside)

-- and so is the one here, where it is put behind them
pub below_with : (i : ℕ) (ids some now : List RecId) → IsRising ids → i < length ids → AreBelowFrom i ids some → now ≡ some ++ get_or ids i none ∷ [] → AreBelowFrom (i + 1) ids now
below_with i ids some now rising inside below is k up low =
    let less : i < k = omega arith in
    let under : i ≤ k = omega arith in
    rw is (All-push (λ (before : RecId). before.0 < (get_or ids k none).0) some (get_or ids i none) (below k under low) (rises ids rising i k less low))

-- no number is above the last one
last_most : (ids : List RecId) (k left : ℕ) → IsRising ids → k < length ids → left ≡ length ids - 1 - k → (get_or ids k none).0 ≤ (get_or ids (length ids - 1) none).0
last_most ids k zero rising within is =
    let e : k ≡ length ids - 1 = omega arith in
    rw e (omega arith)
last_most ids k (suc n) rising within is =
    let before : k < length ids - 1 = omega arith in
    let there : length ids - 1 < length ids = omega arith in
    let below : (get_or ids k none).0 < (get_or ids (length ids - 1) none).0 = rises ids rising k (length ids - 1) before there in
    omega arith

-- an id above the last of a list is above all of it
pub above_last : (ids : List RecId) (last id : RecId) → IsRising ids → last ≡ get_or ids (length ids - 1) last → last.0 < id.0 → All (λ before. before.0 < id.0) ids
above_last ids last id rising is above = λ k d h.
    let there : length ids - 1 < length ids = omega arith in
    let most : (get_or ids k none).0 ≤ (get_or ids (length ids - 1) none).0 = last_most ids k (length ids - 1 - k) rising h refl in
    let one : (get_or ids k d).0 ≡ (get_or ids k none).0 = ap named (get_or_default ids k d none h) in
    let other : last.0 ≡ (get_or ids (length ids - 1) none).0 = ap named (is ∙ get_or_default ids (length ids - 1) last none there) in
    omega arith
