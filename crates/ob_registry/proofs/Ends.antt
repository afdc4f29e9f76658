-- What a list ends in.
use Rattle.std.proofs.Common.{◌≡◌, ◌-◌, ◌↔◌, Bool, true, IsTrue, Option, Some, List, [], ◌∷◌, ◌++◌, length, refl, sym, ap, ◌∙◌, length-append, arith}
use Rattle.std.specs.Prelude.{slice_get}
use Rattle.std.specs.Option.{option_eq}
use Rattle.std.proofs.lemmas.Bool.{false≢true}
use Rattle.ob_registry.proofs.MadeFields.{slice_get-last}

split_last : {X : Type 0} (x : X) (xs : List X) → (front : List X) × (last : X) × (x ∷ xs ≡ front ++ last ∷ [])
split_last x [] = ([], x, refl)
split_last {X = X} x (y ∷ ys) = let rest = split_last y ys in (x ∷ rest.0, rest.1, ap (λ (l : List X). x ∷ l) rest.2)

at_last : {X : Type 0} (front : List X) (last : X) → slice_get (front ++ last ∷ []) (length (front ++ last ∷ []) - 1) ≡ Some last
at_last {X = X} front last =
    let size : length (front ++ last ∷ []) - 1 ≡ length front = omega (arith, length-append front (last ∷ [])) in
    ap (slice_get (front ++ last ∷ [])) size ∙ slice_get-last front last

-- the last item is this one where a test that decides equality says so
pub ends_in : {X : Type 0} (E : X → X → Bool) → ((a b : X) → E a b ≡ true ↔ (a ≡ b)) → (xs : List X) (x : X) (r : Bool) → r ≡ option_eq E (slice_get xs (length xs - 1)) (Some x)
    → IsTrue r ↔ ((front : List X) × (xs ≡ front ++ x ∷ []))
ends_in {X = X} E decides xs x r is = (forth xs is, back)
  where
    forth : (xs : List X) → r ≡ option_eq E (slice_get xs (length xs - 1)) (Some x) → IsTrue r → (front : List X) × (xs ≡ front ++ x ∷ [])
    forth [] is true_is = absurd (false≢true (sym is ∙ true_is))
    forth (y ∷ ys) is true_is =
        let parts = split_last y ys in
        let found : slice_get (y ∷ ys) (length (y ∷ ys) - 1) ≡ Some parts.1 = ap (λ (l : List X). slice_get l (length l - 1)) parts.2 ∙ at_last parts.0 parts.1 in
        let equal : E parts.1 x ≡ true = sym (ap (λ (o : Option X). option_eq E o (Some x)) found) ∙ sym is ∙ true_is in
        (parts.0, parts.2 ∙ ap (λ (z : X). parts.0 ++ z ∷ []) ((decides parts.1 x).0 equal))

    back : ((front : List X) × (xs ≡ front ++ x ∷ [])) → IsTrue r
    back (front, e) =
        let found : slice_get xs (length xs - 1) ≡ Some x = ap (λ (l : List X). slice_get l (length l - 1)) e ∙ at_last front x in
        is ∙ ap (λ (o : Option X). option_eq E o (Some x)) found ∙ (decides x x).1 refl
