-- Things gone through in their order: what stands first against them.
use Rattle.std.proofs.Common.{◌≡◌, ℕ, zero, suc, ◌+◌, ◌<◌, ◌≤◌, List, [], ◌∷◌, ◌++◌, length, take, drop, map, get_or, Option, None, Some, sym, ap, ◌∙◌, arith}
use Rattle.std.specs.Prelude.{slice_get}
use Rattle.std.proofs.lemmas.List.{drop_all}
use Rattle.std.proofs.lemmas.Option.{same_Some}
use Rattle.ob_definition.specs.Definitions.{first_of}
use Rattle.ob_load.specs.AccessFaults.{first_fault}
use Rattle.ob_load.specs.declared.fault.FaultyModule.{FaultyModule}

-- the first of two, where the first has none, and where it has one
pub first-none : {X : Type 0} (a b : Option X) → a ≡ None → first_of a b ≡ b
first-none a b none = ap (λ o. first_of o b) none

pub first-some : {X : Type 0} (a b : Option X) (x : X) → a ≡ Some x → first_of a b ≡ Some x
first-some a b x some = ap (λ o. first_of o b) some

-- an element parts a list
parted : {X : Type 0} (xs : List X) (n : ℕ) (x : X) → slice_get xs n ≡ Some x → (drop n xs ≡ x ∷ drop (suc n) xs) × (take (suc n) xs ≡ take n xs ++ x ∷ [])
parted {X} [] n x at = absurd (let e : ◌≡◌ {A = Option X} None (Some x) = at in cc)
parted (y ∷ xs) zero x at = (ap (λ z. z ∷ xs) (same_Some y x at), ap (λ z. z ∷ []) (same_Some y x at))
parted (y ∷ xs) (suc n) x at = let p = parted xs n x at in (p.0, ap (λ l. y ∷ l) p.1)

pub parted-at : {X : Type 0} (xs : List X) (n : ℕ) (x : X) → slice_get xs n ≡ Some x → (drop n xs ≡ x ∷ drop (n + 1) xs) × (take (n + 1) xs ≡ take n xs ++ x ∷ [])
parted-at xs n x at =
    let p = parted xs n x at in
    let e : suc n ≡ n + 1 = omega arith in
    (p.0 ∙ ap (λ k. x ∷ drop k xs) e, ap (λ k. take k xs) (sym e) ∙ p.1)

-- an item stands at its number
pub stands-at : {X : Type 0} (xs : List X) (n : ℕ) (x : X) → n < length xs → x ≡ get_or xs n x → slice_get xs n ≡ Some x
stands-at [] n x low at = absurd (omega (arith, low))
stands-at (y ∷ xs) zero x low at = ap (λ z. Some z) (sym at)
stands-at (y ∷ xs) (suc n) x low at = stands-at xs n x (omega (arith, low)) at

-- what is first of the rest stands at its number
pub gets-at : {X : Type 0} (xs more : List X) (n : ℕ) (x : X) → drop n xs ≡ x ∷ more → slice_get xs n ≡ Some x
gets-at {X} [] more zero x is = absurd (let e : ◌≡◌ {A = List X} [] (x ∷ more) = is in cc)
gets-at {X} [] more (suc n) x is = absurd (let e : ◌≡◌ {A = List X} [] (x ∷ more) = is in cc)
gets-at {X} (y ∷ xs) more zero x is = let e : ◌≡◌ {A = List X} (y ∷ xs) (x ∷ more) = is in let same : y ≡ x = cc in ap (λ z. Some z) same
gets-at (y ∷ xs) more (suc n) x is = gets-at xs more n x is

-- what an item is seen as stands where the item does
pub seen-at : {X Y : Type 0} (f : X → Y) (xs : List X) (n : ℕ) (x : X) → n < length xs → x ≡ get_or xs n x → slice_get (map f xs) n ≡ Some (f x)
seen-at f [] n x low at = absurd (omega (arith, low))
seen-at f (y ∷ xs) zero x low at = ap (λ z. Some (f z)) (sym at)
seen-at f (y ∷ xs) (suc n) x low at = seen-at f xs n x (omega (arith, low)) at

module _ {X : Type 0} (wrong : List X → X → Option FaultyModule) (xs : List X) where
  -- the first fault from a number on
  abbrev pub fault_from : ℕ → Option FaultyModule
  fault_from n = first_fault wrong (take n xs) (drop n xs)

  module _ (n : ℕ) (x : X) (at : slice_get xs n ≡ Some x) where
    next : fault_from n ≡ first_of (wrong (take n xs) x) (fault_from (n + 1))
    next =
        let p = parted-at xs n x at in
        ap (first_fault wrong (take n xs)) p.0 ∙ ap (λ before. first_of (wrong (take n xs) x) (first_fault wrong before (drop (n + 1) xs))) (sym p.1)

    -- that of the next thing
    pub fault-here : (faulty : FaultyModule) → wrong (take n xs) x ≡ Some faulty → fault_from n ≡ Some faulty
    fault-here faulty is = next ∙ first-some (wrong (take n xs) x) (fault_from (n + 1)) faulty is

    -- where nothing stands against it, one behind it
    pub fault-on : wrong (take n xs) x ≡ None → fault_from n ≡ fault_from (n + 1)
    fault-on none = next ∙ first-none (wrong (take n xs) x) (fault_from (n + 1)) none

  -- with nothing left there is none
  pub fault-end : (n : ℕ) → length xs ≤ n → fault_from n ≡ None
  fault-end n high = ap (first_fault wrong (take n xs)) (drop_all n xs high)
