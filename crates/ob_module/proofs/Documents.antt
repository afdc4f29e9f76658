-- What lists of a document stand for, by their items, and lists that are made of them one by one.
use Rattle.std.proofs.Common.{◌≡◌, ℕ, ◌≤◌, List, [], ◌∷◌, length, map, take, Option, Some, None, option_map, unwrap_or, refl, ap, ◌∙◌}
use Rattle.std.proofs.lemmas.List.{take_all}
use Rattle.std.specs.Option.{option_map_or}
use Rattle.toml.specs.Data.{Data}
use Rattle.toml.specs.View.{items_view, view}
use Rattle.toml.specs.declared.value.Value.{Value}
use Rattle.ob_module.specs.Meaning.{items_of, listed, text_of, texts_of}

pub listed-view : (values : List Value) → listed (items_view values) ≡ map view values
listed-view [] = refl
listed-view (v ∷ values) = ap (λ rest. view v ∷ rest) (listed-view values)

pub map-over : {X Y Z : Type 0} (f : Y → Z) (g : X → Y) (xs : List X) → map (λ x. f (g x)) xs ≡ map f (map g xs)
map-over f g [] = refl
map-over f g (x ∷ xs) = ap (λ rest. f (g x) ∷ rest) (map-over f g xs)

-- a list that was made of all items is that of what the items are seen as
pub map-whole : {X Y Z : Type 0} (f : Y → Z) (g : X → Y) (xs : List X) (seen : List Y) (n : ℕ) (made : List Z) → made ≡ map (λ x. f (g x)) (take n xs) → length xs ≤ n → map g xs ≡ seen → made ≡ map f seen
map-whole f g xs seen n made so_far past same = so_far ∙ ap (map (λ x. f (g x))) (take_all n xs past) ∙ map-over f g xs ∙ ap (map f) same

-- the texts of what may be a list
pub texts-of-items : (list : Option Data) → map text_of (option_map_or items_of list []) ≡ unwrap_or (option_map texts_of list) []
texts-of-items None = refl
texts-of-items (Some d) = refl
