-- Tests of each item of a list.
use Rattle.std.proofs.Common.{◌≡◌, ℕ, Bool, ◌||◌, List, [], ◌∷◌, map, refl, ap}
use Rattle.std.specs.List.{list_any}
use Rattle.std.specs.Str.{bytes_eq}
use Rattle.ob_definition.specs.declared.field_type.Choice.{Choice}
use Rattle.ob_definition.specs.Values.{keys_of}

pub list_any-map : {X Y : Type 0} (test : Y → Bool) (f : X → Y) (xs : List X) → list_any test (map f xs) ≡ list_any (λ x. test (f x)) xs
list_any-map test f [] = refl
list_any-map test f (x ∷ xs) = ap (λ (b : Bool). test (f x) || b) (list_any-map test f xs)

-- to test the keys of choices is to test the key of each
pub any_key : (text : List ℕ) (choices : List Choice) → list_any (bytes_eq text) (keys_of choices) ≡ list_any (λ choice. bytes_eq text choice.key) choices
any_key text choices = list_any-map (bytes_eq text) (λ (choice : Choice). choice.key) choices
