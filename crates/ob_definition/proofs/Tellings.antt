-- What is told of one thing after another, as what is wrong with all of them.
use Rattle.std.proofs.Common.{◌≡◌, ◌⊎◌, inl, inr, zero, suc, List, [], ◌∷◌, ◌++◌, Option, Some, None, refl, sym, subst, arith}
use Rattle.std.specs.Prelude.{Any}
use Rattle.ob_definition.specs.declared.fault.SchemaFault.{SchemaFault}
use Rattle.ob_definition.specs.declared.fault.Spot.{Spot}
use Rattle.ob_definition.specs.declared.wrong.Wrong.{Wrong}
use Rattle.ob_definition.specs.Findings.{Adds, IsAt, IsFaultAt, Tells}
use Rattle.ob_definition.proofs.Adding.{Adds-both, Adds-same}

-- one of a list with one more
pub Any-pushed : {X : Type 0} (P : X → Type 0) (xs : List X) (y : X) → Any P (xs ++ y ∷ []) → Any P xs ⊎ P y
Any-pushed P [] y (zero, x, within, is, p) = inr (subst P (sym is) p)
Any-pushed P [] y (suc k, x, within, is, p) = absurd (omega (arith, within))
Any-pushed P (z ∷ xs) y (zero, x, within, is, p) = inl (zero, x, omega arith, is, p)
Any-pushed P (z ∷ xs) y (suc k, x, within, is, p) = elim (Any-pushed P xs y (k, x, omega (arith, within), is, p)) as (λ _. Any P (z ∷ xs) ⊎ P y) [
  | inl w ↦ inl (suc w.0, w.1, omega (arith, w.2), w.3, w.4)
  | inr q ↦ inr q
]

pub Any-before : {X : Type 0} (P : X → Type 0) (xs : List X) (y : X) → Any P xs → Any P (xs ++ y ∷ [])
Any-before P [] y (k, x, within, is, p) = absurd (omega (arith, within))
Any-before P (z ∷ xs) y (zero, x, within, is, p) = (zero, x, omega arith, is, p)
Any-before P (z ∷ xs) y (suc k, x, within, is, p) = let w = Any-before P xs y (k, x, omega (arith, within), is, p) in (suc w.0, w.1, omega (arith, w.2), w.3, w.4)

pub Any-last : {X : Type 0} (P : X → Type 0) (xs : List X) (y : X) → P y → Any P (xs ++ y ∷ [])
Any-last P [] y p = (zero, y, omega arith, refl, p)
Any-last P (z ∷ xs) y p = let w = Any-last P xs y p in (suc w.0, w.1, omega (arith, w.2), w.3, w.4)

-- what is found of one more
pub Adds-more : {X : Type 0} (P : X → SchemaFault → Type 0) (xs : List X) (x : X) (a b c : Option SchemaFault) → Adds (λ why. Any (λ y. P y why) xs) a b → Adds (P x) b c
    → Adds (λ why. Any (λ y. P y why) (xs ++ x ∷ [])) a c
Adds-more P xs x a b c before now =
    Adds-same (λ why. Any (λ y. P y why) xs ⊎ P x why) (λ why. Any (λ y. P y why) (xs ++ x ∷ [])) a c to (λ why w. Any-pushed (λ y. P y why) xs x w)
    (Adds-both (λ why. Any (λ y. P y why) xs) (P x) a b c before now)
  where
    to : (why : SchemaFault) → Any (λ y. P y why) xs ⊎ P x why → Any (λ y. P y why) (xs ++ x ∷ [])
    to why (inl w) = Any-before (λ y. P y why) xs x w
    to why (inr p) = Any-last (λ y. P y why) xs x p

-- what is told at a spot, where that is what is wrong
pub Adds-tells : (IsWrong : Wrong → Type 0) (told : Option Wrong) (spot : Spot) (a b : Option SchemaFault) → Tells IsWrong told → Adds (IsAt told spot) a b → Adds (IsFaultAt spot IsWrong) a b
Adds-tells IsWrong told spot a b tells adds = Adds-same (IsAt told spot) (IsFaultAt spot IsWrong) a b (to told refl) from adds
  where
    to : (o : Option Wrong) → told ≡ o → (why : SchemaFault) → IsAt o spot why → IsFaultAt spot IsWrong why
    to None e why at = absurd at
    to (Some w) e why at = (w, (tells w).0 e, at)

    from : (why : SchemaFault) → IsFaultAt spot IsWrong why → IsAt told spot why
    from why (w, is, e) = subst (λ (o : Option Wrong). IsAt o spot why) (sym ((tells w).1 is)) e
