-- The values of options in turn, and what a loop pushes that takes those that are there.
use Rattle.std.proofs.Common.{◌≡◌, ℕ, ◌+◌, ◌<◌, ◌||◌, Bool, true, false, Option, Some, None, List, [], ◌∷◌, ◌++◌, length, get_or, map, take, refl, sym, ap, ◌∙◌, arith}
use Rattle.std.specs.Prelude.{All}
use Rattle.std.specs.List.{list_any}
use Rattle.std.proofs.lemmas.Bool.{or_right}
use Rattle.std.proofs.lemmas.List.{map-append, take_more}
use Rattle.std.proofs.lemmas.Option.{same_Some, slice_get-get_or}
use Rattle.std.proofs.lemmas.List.Elements.{All-cons, All-head, All-tail}

-- the values that are there
abbrev pub with_value : {X : Type 0} → Option X → List X → List X
with_value None xs = xs
with_value (Some x) xs = x ∷ xs

abbrev pub somes : {X : Type 0} → List (Option X) → List X
somes [] = []
somes (o ∷ os) = with_value o (somes os)

pub somes-push_some : {X : Type 0} (os : List (Option X)) (x : X) → somes (os ++ Some x ∷ []) ≡ somes os ++ x ∷ []
somes-push_some [] x = refl
somes-push_some (None ∷ os) x = somes-push_some os x
somes-push_some (Some y ∷ os) x = ap (λ l. y ∷ l) (somes-push_some os x)

pub somes-push_none : {X : Type 0} (os : List (Option X)) → somes (os ++ None ∷ []) ≡ somes os
somes-push_none [] = refl
somes-push_none (None ∷ os) = somes-push_none os
somes-push_none (Some y ∷ os) = ap (λ l. y ∷ l) (somes-push_none os)

-- one more item, which has a value, or none
pub some_more : {X Y : Type 0} (f : Y → Option X) (ys : List Y) (i : ℕ) (y : Y) (x : X) → i < length ys → y ≡ get_or ys i y → f y ≡ Some x
    → somes (map f (take (i + 1) ys)) ≡ somes (map f (take i ys)) ++ x ∷ []
some_more {X = X} {Y = Y} f ys i y x within is found =
    let more : take (i + 1) ys ≡ take i ys ++ y ∷ [] = take_more ys i y within ∙ ap (λ (z : Y). take i ys ++ z ∷ []) (sym is) in
    ap (λ (l : List Y). somes (map f l)) more ∙ ap somes (map-append f (take i ys) (y ∷ [])) ∙ ap (λ (o : Option X). somes (map f (take i ys) ++ o ∷ [])) found ∙ somes-push_some (map f (take i ys)) x

pub none_more : {X Y : Type 0} (f : Y → Option X) (ys : List Y) (i : ℕ) (y : Y) → i < length ys → y ≡ get_or ys i y → f y ≡ None → somes (map f (take (i + 1) ys)) ≡ somes (map f (take i ys))
none_more {X = X} {Y = Y} f ys i y within is found =
    let more : take (i + 1) ys ≡ take i ys ++ y ∷ [] = take_more ys i y within ∙ ap (λ (z : Y). take i ys ++ z ∷ []) (sym is) in
    ap (λ (l : List Y). somes (map f l)) more ∙ ap somes (map-append f (take i ys) (y ∷ [])) ∙ ap (λ (o : Option X). somes (map f (take i ys) ++ o ∷ [])) found ∙ somes-push_none (map f (take i ys))

-- where each item has a value, there is one for each
pub kept_all : {X Y Z : Type 0} (f : Y → Option X) (g : X → Z) (h : Y → Z) → ((y : Y) (x : X) → f y ≡ Some x → g x ≡ h y) → (ys : List Y) → All (λ y. f y ≡ None → ⊥) ys → map g (somes (map f ys)) ≡ map h ys
kept_all f g h agree [] known = refl
kept_all {X = X} {Z = Z} f g h agree (y ∷ ys) known = by (f y) refl (All-head (λ y. f y ≡ None → ⊥) y ys known) (kept_all f g h agree ys (All-tail (λ y. f y ≡ None → ⊥) y ys known))
  where
    by : (o : Option X) → f y ≡ o → (f y ≡ None → ⊥) → map g (somes (map f ys)) ≡ map h ys → map g (with_value o (somes (map f ys))) ≡ h y ∷ map h ys
    by None e there rest = absurd (there e)
    by (Some x) e there rest = ap (λ (z : Z). z ∷ map g (somes (map f ys))) (agree y x e) ∙ ap (λ (l : List Z). h y ∷ l) rest

-- where a test passes none
pub none_passes : {Y : Type 0} (test : Y → Bool) (ys : List Y) → (list_any test ys ≡ true → ⊥) → All (λ y. test y ≡ true → ⊥) ys
none_passes test [] none = λ k d within. absurd (omega arith)
none_passes {Y = Y} test (y ∷ ys) none =
    let here : test y ≡ true → ⊥ = λ e. none (by (test y) (list_any test ys) e) in
    cons here (none_passes test ys (λ e. none (or_right (test y) (list_any test ys) e)))
  where
    by : (a b : Bool) → a ≡ true → (a || b) ≡ true
    by true b e = refl
    by false b e = absurd (cc)

    cons : (test y ≡ true → ⊥) → All (λ y. test y ≡ true → ⊥) ys → All (λ y. test y ≡ true → ⊥) (y ∷ ys)
    cons here rest = All-cons (λ y. test y ≡ true → ⊥) y ys here rest

-- an option that is no value is none
pub none_from : {X : Type 0} (o : Option X) → ((x : X) → o ≡ Some x → ⊥) → o ≡ None
none_from None not_some = refl
none_from (Some x) not_some = absurd (not_some x refl)

pub map-map : {A B C : Type 0} (f : A → B) (g : B → C) (xs : List A) → map g (map f xs) ≡ map (λ x. g (f x)) xs
map-map f g [] = refl
map-map {C = C} f g (x ∷ xs) = ap (λ (l : List C). g (f x) ∷ l) (map-map f g xs)

-- within a list what stands in for an item doesn't matter
pub read_within : {X : Type 0} (xs : List X) (i : ℕ) (d e : X) → i < length xs → get_or xs i d ≡ get_or xs i e
read_within xs i d e within = same_Some (get_or xs i d) (get_or xs i e) (sym (slice_get-get_or xs i d within) ∙ slice_get-get_or xs i e within)
