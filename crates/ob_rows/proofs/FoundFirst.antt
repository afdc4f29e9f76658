-- The first of some items that passes a test, and all that do, item by item.
use Rattle.std.proofs.Common.{◌≡◌, ◌+◌, ◌<◌, ◌++◌, ◌∷◌, [], ℕ, Bool, true, false, cond, filter, List, drop, get_or, length, take, Some, ap, ◌∙◌}
use Rattle.std.specs.Prelude.{find}
use Rattle.std.proofs.lemmas.List.{append-nil, drop_more, take_more}
use Rattle.std.proofs.lemmas.List.Elements.{filter-append}

module _ {X : Type 0} (test : X → Bool) (xs : List X) (i : ℕ) (d : X) (low : i < length xs) where
  -- it is the one at this place, or it is found behind it
  at_place : (b : Bool) → test (get_or xs i d) ≡ b → find test (drop i xs) ≡ cond b (Some (get_or xs i d)) (find test (drop (i + 1) xs))
  at_place b is = ap (find test) (drop_more xs i d low) ∙ ap (λ (b : Bool). cond b (Some (get_or xs i d)) (find test (drop (i + 1) xs))) is

  pub found-here : test (get_or xs i d) ≡ true → find test (drop i xs) ≡ Some (get_or xs i d)
  found-here = at_place true

  pub found-later : test (get_or xs i d) ≡ false → find test (drop i xs) ≡ find test (drop (i + 1) xs)
  found-later = at_place false

-- ---- those that pass

module _ {X : Type 0} (test : X → Bool) (xs : List X) (i : ℕ) (d : X) (low : i < length xs) where
  -- the one at this place stands behind those before it, or is left out
  at_end : (b : Bool) → test (get_or xs i d) ≡ b → filter test (take (i + 1) xs) ≡ filter test (take i xs) ++ cond b (get_or xs i d ∷ []) []
  at_end b is =
      ap (filter test) (take_more xs i d low) ∙ filter-append test (take i xs) (get_or xs i d ∷ []) ∙ ap (λ (b : Bool). filter test (take i xs) ++ cond b (get_or xs i d ∷ []) []) is

  pub kept-more : test (get_or xs i d) ≡ true → filter test (take (i + 1) xs) ≡ filter test (take i xs) ++ get_or xs i d ∷ []
  kept-more = at_end true

  pub passed-over : test (get_or xs i d) ≡ false → filter test (take (i + 1) xs) ≡ filter test (take i xs)
  passed-over is = at_end false is ∙ append-nil (filter test (take i xs))
