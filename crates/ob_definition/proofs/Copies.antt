-- Loops that push one value for each element, and lists that stand place by place.
use Rattle.std.proofs.Common.{◌≡◌, ℕ, ◌+◌, ◌<◌, Bool, cond, not, is_some, Some, None, List, [], ◌∷◌, ◌++◌, map, length, length-append, take, get_or, append_assoc, refl, sym, ap, subst, ◌∙◌, arith}
use Rattle.std.specs.List.{AllZip, position}
use Rattle.std.proofs.lemmas.Bool.Decides.{nat_tests}
use Rattle.std.proofs.lemmas.List.{map-append, take_more}
use Rattle.std.proofs.lemmas.List.Folds.{position_or_len_push}
use Rattle.std.proofs.lemmas.List.Sums.{prefix_len-le-length}

-- the next front of a list
pub next_front : {X : Type 0} (xs : List X) (i : ℕ) (x : X) → i < length xs → x ≡ get_or xs i x → take i xs ++ x ∷ [] ≡ take (i + 1) xs
next_front {X} xs i x within is = ap (λ (y : X). take i xs ++ y ∷ []) is ∙ sym (take_more xs i x within)

-- a copy of the next element
pub copy_more : {X : Type 0} (xs : List X) (i : ℕ) (x y : X) (ys : List X) → i < length xs → x ≡ get_or xs i x → ys ≡ take i xs → y ≡ x → ys ++ y ∷ [] ≡ take (i + 1) xs
copy_more {X} xs i x y ys within is e same = ap (λ (l : List X). l ++ y ∷ []) e ∙ ap (λ (z : X). take i xs ++ z ∷ []) same ∙ next_front xs i x within is

-- the value of the next element
pub value_more : {X Y : Type 0} (g : X → Y) (xs : List X) (i : ℕ) (x : X) (y : Y) (ys : List Y) → i < length xs → x ≡ get_or xs i x → ys ≡ map g (take i xs) → y ≡ g x → ys ++ y ∷ [] ≡ map g (take (i + 1) xs)
value_more {X} {Y} g xs i x y ys within is e same = ap (λ (l : List Y). l ++ y ∷ []) e ∙ ap (λ (z : Y). map g (take i xs) ++ z ∷ []) same ∙ sym (map-append g (take i xs) (x ∷ [])) ∙ ap (map g) (next_front xs i x within is)

-- the view of the next value
pub view_more : {X Y Z : Type 0} (view : Z → Y) (g : X → Y) (xs : List X) (i : ℕ) (x : X) (z : Z) (zs : List Z) → i < length xs → x ≡ get_or xs i x → map view zs ≡ map g (take i xs) → view z ≡ g x
    → map view (zs ++ z ∷ []) ≡ map g (take (i + 1) xs)
view_more view g xs i x z zs within is e same = map-append view zs (z ∷ []) ∙ value_more g xs i x (view z) (map view zs) within is e same

-- one more place of two lists
pub zip_push : {A B : Type 0} (R : A → B → Type 0) (xs : List A) (ys : List B) (x : A) (y : B) → AllZip R xs ys → R x y → AllZip R (xs ++ x ∷ []) (ys ++ y ∷ [])
zip_push R [] [] x y all r = (r, tt)
zip_push R [] (z ∷ ys) x y all r = absurd all
zip_push R (z ∷ xs) [] x y all r = absurd all
zip_push R (a ∷ xs) (b ∷ ys) x y all r = (all.0, zip_push R xs ys x y all.1 r)

pub zip_more : {A B : Type 0} (R : A → B → Type 0) (xs : List A) (i : ℕ) (x : A) (ys : List B) (y : B) → i < length xs → x ≡ get_or xs i x → AllZip R (take i xs) ys → R x y → AllZip R (take (i + 1) xs) (ys ++ y ∷ [])
zip_more {A} R xs i x ys y within is all r = subst (λ (l : List A). AllZip R l (ys ++ y ∷ [])) (next_front xs i x within is) (zip_push R (take i xs) ys x y all r)

pub zip_length : {A B : Type 0} (R : A → B → Type 0) (xs : List A) (ys : List B) → AllZip R xs ys → length ys ≡ length xs
zip_length R [] [] all = refl
zip_length R [] (y ∷ ys) all = absurd all
zip_length R (x ∷ xs) [] all = absurd all
zip_length R (x ∷ xs) (y ∷ ys) all = let rest = zip_length R xs ys all.1 in omega arith

-- a map after a map
pub map_map : {A B C : Type 0} (f : A → B) (g : B → C) (xs : List A) → map (λ x. g (f x)) xs ≡ map g (map f xs)
map_map f g [] = refl
map_map f g (x ∷ xs) = ap (λ l. g (f x) ∷ l) (map_map f g xs)

-- three pushes
pub pushed_three : {X : Type 0} (d p q r : List X) (a b c x y z : X) → p ≡ d ++ a ∷ [] → q ≡ p ++ b ∷ [] → r ≡ q ++ c ∷ [] → a ≡ x → b ≡ y → c ≡ z → r ≡ d ++ (x ∷ y ∷ z ∷ [])
pushed_three {X} d p q r a b c x y z e f g ex ey ez =
    g ∙ ap (λ (l : List X). l ++ c ∷ []) (f ∙ ap (λ (l : List X). l ++ b ∷ []) e)
    ∙ ap (λ (l : List X). l ++ c ∷ []) (append_assoc d (a ∷ []) (b ∷ []))
    ∙ append_assoc d (a ∷ b ∷ []) (c ∷ [])
    ∙ ap (λ (v : X). d ++ (v ∷ b ∷ c ∷ [])) ex ∙ ap (λ (v : X). d ++ (x ∷ v ∷ c ∷ [])) ey ∙ ap (λ (v : X). d ++ (x ∷ y ∷ v ∷ [])) ez

-- the value of the next element, where elements are read with a default
pub value_more_at : {X Y : Type 0} (g : X → Y) (xs : List X) (i : ℕ) (d : X) (y : Y) (ys : List Y) → i < length xs → ys ≡ map g (take i xs) → y ≡ g (get_or xs i d) → ys ++ y ∷ [] ≡ map g (take (i + 1) xs)
value_more_at {X} {Y} g xs i d y ys within e same = ap (λ (l : List Y). l ++ y ∷ []) e ∙ ap (λ (z : Y). map g (take i xs) ++ z ∷ []) same ∙ sym (map-append g (take i xs) (get_or xs i d ∷ [])) ∙ ap (map g) (sym (take_more xs i d within))

-- the first place that passes, after one more item
pub position-push : {X : Type 0} (p : X → Bool) (xs : List X) (y : X) → position p (xs ++ y ∷ []) ≡ cond (is_some (position p xs)) (position p xs) (cond (p y) (Some (length xs)) None)
position-push p xs y = grind (arith, nat_tests, position_or_len_push p xs y, length-append xs (y ∷ []), prefix_len-le-length (λ x. not (p x)) xs)
