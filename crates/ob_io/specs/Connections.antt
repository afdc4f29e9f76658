-- What a door does with its connections, where it tells them.
use Rattle.std.specs.Prelude.{◌≡◌, ℕ, List, [], ◌∷◌, ◌++◌, Option, Some, option_map, IfSome, Bool, true, false}

-- the last of the lists goes on with these bytes
abbrev pub extend_last : List ℕ → List (List ℕ) → List (List ℕ)
extend_last bytes [] = []
extend_last bytes (last ∷ []) = (last ++ bytes) ∷ []
extend_last bytes (first ∷ next ∷ rest) = first ∷ extend_last bytes (next ∷ rest)

-- The next connection is the current one from now on, all its bytes still to come and
-- none written to it; or there is no other, and nothing changes.
abbrev pub Admits : (coming_before coming_now : Option (List (List ℕ))) (left_before left_now : Option (List ℕ)) (written_before written_now : Option (List (List ℕ))) → Bool → Type 0
Admits coming coming' left left' written written' true =
    IfSome coming (λ streams. (first : List ℕ) × (others : List (List ℕ)) × (streams ≡ first ∷ others) × (coming' ≡ Some others) × (left' ≡ Some first))
    × (written' ≡ option_map (λ before. before ++ [] ∷ []) written)
Admits coming coming' left left' written written' false = IfSome coming (λ streams. streams ≡ []) × (coming' ≡ coming) × (left' ≡ left) × (written' ≡ written)
