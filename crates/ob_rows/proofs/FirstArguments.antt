-- The arguments of a call that expects one or two of them, as the code has them.
use Rattle.std.proofs.Common.{◌≡◌, List, [], ◌∷◌, get_or, Option, option_map, refl, sym, ap, subst, ◌∙◌}
use Rattle.ob_call.specs.Arguments.{AreFit, Expected, IsFit}
use Rattle.ob_call.specs.ArgumentsSteps.{all_given_of, given_of}
use Rattle.ob_call.specs.declared.arguments.Given.{Given}

-- one that fits
pub record IsSole (p : Expected) (gs : List (Option Given)) : Type 0 where
  pub first : Option Given
  pub are : gs ≡ first ∷ []
  pub fit : IsFit p (option_map given_of first)

pub sole : (p : Expected) (gs : List (Option Given)) → AreFit (p ∷ []) (all_given_of gs) → IsSole p gs
sole p [] h = absurd h
sole p (x ∷ []) h = record { first = x; are = refl; fit = h.0 }
sole p (x ∷ y ∷ gs) h = absurd h.1

-- the first of them is it
pub sole_is : (p : Expected) (gs : List (Option Given)) (x : Option Given) (one : IsSole p gs) → x ≡ get_or gs 0 x → x ≡ one.first
sole_is p gs x one at = at ∙ ap (λ (hs : List (Option Given)). get_or hs 0 x) one.are

-- so it fits
pub sole_fits : (p : Expected) (gs : List (Option Given)) (x : Option Given) → AreFit (p ∷ []) (all_given_of gs) → x ≡ get_or gs 0 x → IsFit p (option_map given_of x)
sole_fits p gs x h at = let one = sole p gs h in subst (λ (g : Option Given). IsFit p (option_map given_of g)) (sym (sole_is p gs x one at)) one.fit

-- and there is no other
pub sole_are : (p : Expected) (gs : List (Option Given)) (x : Option Given) → AreFit (p ∷ []) (all_given_of gs) → x ≡ get_or gs 0 x → gs ≡ x ∷ []
sole_are p gs x h at = let one = sole p gs h in one.are ∙ ap (λ (g : Option Given). g ∷ []) (sym (sole_is p gs x one at))

-- two that fit
pub record ArePair (p q : Expected) (gs : List (Option Given)) : Type 0 where
  pub first : Option Given
  pub second : Option Given
  pub are : gs ≡ first ∷ second ∷ []
  pub first_fits : IsFit p (option_map given_of first)
  pub second_fits : IsFit q (option_map given_of second)

pub pair : (p q : Expected) (gs : List (Option Given)) → AreFit (p ∷ q ∷ []) (all_given_of gs) → ArePair p q gs
pair p q [] h = absurd h
pair p q (x ∷ []) h = absurd h.1
pair p q (x ∷ y ∷ []) h = record { first = x; second = y; are = refl; first_fits = h.0; second_fits = h.1.0 }
pair p q (x ∷ y ∷ z ∷ gs) h = absurd h.1.1

-- the first and the second of them are these
pub first_is : (p q : Expected) (gs : List (Option Given)) (x : Option Given) (two : ArePair p q gs) → x ≡ get_or gs 0 x → x ≡ two.first
first_is p q gs x two at = at ∙ ap (λ (hs : List (Option Given)). get_or hs 0 x) two.are

pub second_is : (p q : Expected) (gs : List (Option Given)) (y : Option Given) (two : ArePair p q gs) → y ≡ get_or gs 1 y → y ≡ two.second
second_is p q gs y two at = at ∙ ap (λ (hs : List (Option Given)). get_or hs 1 y) two.are

pub second_fit : (p q : Expected) (gs : List (Option Given)) (y : Option Given) → AreFit (p ∷ q ∷ []) (all_given_of gs) → y ≡ get_or gs 1 y → IsFit q (option_map given_of y)
second_fit p q gs y h at = let two = pair p q gs h in subst (λ (g : Option Given). IsFit q (option_map given_of g)) (sym (second_is p q gs y two at)) two.second_fits

pub pair_are : (p q : Expected) (gs : List (Option Given)) (x y : Option Given) → AreFit (p ∷ q ∷ []) (all_given_of gs) → x ≡ get_or gs 0 x → y ≡ get_or gs 1 y → gs ≡ x ∷ y ∷ []
pair_are p q gs x y h at then =
    let two = pair p q gs h in
    two.are ∙ ap (λ (g : Option Given). g ∷ two.second ∷ []) (sym (first_is p q gs x two at)) ∙ ap (λ (g : Option Given). x ∷ g ∷ []) (sym (second_is p q gs y two then))
