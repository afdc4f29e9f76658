-- JSON lists as the code has them, and lists that grow by what may be there.
use Rattle.std.proofs.Common.{◌≡◌, ℕ, zero, suc, ◌+◌, ◌<◌, ◌≤◌, List, [], ◌∷◌, ◌++◌, map, length, get_or, drop, take, Option, Some, None, option_map, Bor, Vec, Global, refl, sym, ap, ◌∙◌, arith, append_assoc, add-one}
use Rattle.std.specs.Prelude.{Bool, option_to_list, slice_get}
use Rattle.std.specs.List.{filter_map, position, position_or_len}
use Rattle.std.specs.Slice.{IsItemAt}
use Rattle.std.proofs.Math.Seq.{drop-cons}
use Rattle.std.proofs.lemmas.Option.{slice_get_past, slice_get_read}
use Rattle.std.proofs.lemmas.List.{append-nil, drop_all, length-map, map-append, take_all, take_more}
use Rattle.ob_call.proofs.CallerLemmas.{listed-items_view}
use Rattle.ob_codec.specs.Commands.{listed}
use Rattle.serde_json.proofs.Views.{view-Array}
use Rattle.serde_json.specs.Data.{Data, array}
use Rattle.serde_json.specs.View.{items_view, view}
use Rattle.serde_json.specs.declared.value.Value.{Array, Value}

-- what is said of a list by its items
pub by_items : {X : Type 0} (of : Data → X) (by : List Data → X) (json : Value) (v : Vec Value Global) (items : List Value) → json ≡ Array v → items ≡ v.items → of (array (items_view v.items)) ≡ by (listed (items_view v.items))
    → by (map view items) ≡ of (view json)
by_items of by json v items is same means = ap (λ (vs : List Value). by (map view vs)) same ∙ ap by (sym (listed-items_view v.items)) ∙ sym means ∙ ap of (sym (ap view is ∙ view-Array v))

-- what is left at a place
pub map-left : {A B : Type 0} (f : A → B) (xs : List A) (i : ℕ) (d : A) → i < length xs → map f (drop i xs) ≡ f (get_or xs i d) ∷ map f (drop (i + 1) xs)
map-left f xs i d lt = ap (map f) (drop-cons xs i d lt) ∙ ap (λ (n : ℕ). f (get_or xs i d) ∷ map f (drop n xs)) (sym (add-one i))

pub map-past : {A B : Type 0} (f : A → B) (xs : List A) (i : ℕ) → length xs ≤ i → map f (drop i xs) ≡ []
map-past f xs i low = ap (map f) (drop_all i xs low)

-- ---- what each of a list may give

module _ {A B : Type 0} (f : A → Option B) where
  -- what was gathered, and what is still to come
  pub record IsKeptTo (all rest : List A) (so_far : List B) : Type 0 where
    pub are : so_far ++ filter_map f rest ≡ filter_map f all

  pub IsKeptTo-none : (all : List A) → IsKeptTo all all []
  IsKeptTo-none all = record { are = refl }

  gives : (x : A) (rest : List A) (o : Option B) → f x ≡ o → filter_map f (x ∷ rest) ≡ option_to_list o ++ filter_map f rest
  gives x rest None e = rw e refl
  gives x rest (Some y) e = rw e refl

  pub IsKeptTo-more : (all rest : List A) (x : A) (so_far : List B) → IsKeptTo all (x ∷ rest) so_far → IsKeptTo all rest (so_far ++ option_to_list (f x))
  IsKeptTo-more all rest x so_far kept = record { are = append_assoc so_far (option_to_list (f x)) (filter_map f rest) ∙ ap (λ (l : List B). so_far ++ l) (sym (gives x rest (f x) refl)) ∙ kept.are }

  pub IsKeptTo-all : (all : List A) (so_far : List B) → IsKeptTo all [] so_far → so_far ≡ filter_map f all
  IsKeptTo-all all so_far kept = sym (append-nil so_far) ∙ kept.are

pub option_to_list-map : {A B : Type 0} (f : A → B) (o : Option A) → map f (option_to_list o) ≡ option_to_list (option_map f o)
option_to_list-map f None = refl
option_to_list-map f (Some x) = refl

-- one of a list more
pub map-taken : {A B : Type 0} (f : A → B) (xs : List A) (i : ℕ) (d : A) (ys : List B) (y : B) → i < length xs → ys ≡ map f (take i xs) → y ≡ f (get_or xs i d) → ys ++ y ∷ [] ≡ map f (take (i + 1) xs)
map-taken {A} {B} f xs i d ys y lt are is =
    ap (λ (l : List B). l ++ y ∷ []) are ∙ ap (λ (z : B). map f (take i xs) ++ z ∷ []) is
    ∙ sym (ap (map f) (take_more xs i d lt) ∙ map-append f (take i xs) (get_or xs i d ∷ []))

pub map-all : {A B : Type 0} (f : A → B) (xs : List A) (i : ℕ) (ys : List B) → length xs ≤ i → ys ≡ map f (take i xs) → ys ≡ map f xs
map-all f xs i ys low are = are ∙ ap (map f) (take_all i xs low)

pub map-map : {A B C : Type 0} (f : B → C) (g : A → B) (xs : List A) → map f (map g xs) ≡ map (λ x. f (g x)) xs
map-map f g [] = refl
map-map f g (x ∷ xs) = ap (λ l. f (g x) ∷ l) (map-map f g xs)

place-map-or : {A B : Type 0} (p : B → Bool) (f : A → B) (xs : List A) → position_or_len p (map f xs) ≡ position_or_len (λ x. p (f x)) xs
place-map-or p f [] = refl
place-map-or p f (x ∷ xs) = rw (place-map-or p f xs) refl

pub position-map : {A B : Type 0} (p : B → Bool) (f : A → B) (xs : List A) → position p (map f xs) ≡ position (λ x. p (f x)) xs
position-map p f xs = rw (place-map-or p f xs, length-map xs f) refl

-- one of a list that is viewed more, and all of it
pub map-taken-view : {A B C : Type 0} (view : A → B) (f : B → C) (xs : List A) (i : ℕ) (d : A) (ys : List C) (y : C) → i < length xs → ys ≡ map f (map view (take i xs)) → y ≡ f (view (get_or xs i d)) → ys
    ++ y ∷ [] ≡ map f (map view (take (i + 1) xs))
map-taken-view view f xs i d ys y lt are is = map-taken (λ x. f (view x)) xs i d ys y lt (are ∙ map-map f view (take i xs)) is ∙ sym (map-map f view (take (i + 1) xs))

pub map-all-view : {A B C : Type 0} (view : A → B) (f : B → C) (xs : List A) (i : ℕ) (ys : List C) → length xs ≤ i → ys ≡ map f (map view (take i xs)) → ys ≡ map f (map view xs)
map-all-view view f xs i ys low are = are ∙ ap (λ l. map f (map view l)) (take_all i xs low)

pub get-map : {A B : Type 0} (f : A → B) (xs : List A) (n : ℕ) → slice_get (map f xs) n ≡ option_map f (slice_get xs n)
get-map f [] n = refl
get-map f (x ∷ xs) zero = refl
get-map f (x ∷ xs) (suc n) = get-map f xs n

-- what a look-up at a place lends
pub got-at : {X : Type 0} (xs : List X) (i : ℕ) (r : Option (Bor X)) → IsItemAt xs i r → option_map (λ x. x.now) r ≡ slice_get xs i
got-at xs i None item = sym (slice_get_past xs i item.3)
got-at xs i (Some x) item = sym (slice_get_read xs (length xs) i x.now refl item.3.0 item.1)
