-- A path as text: its steps with dots between them.
use Rattle.std.specs.Prelude.{ℕ, List, [], ◌∷◌, ◌++◌, decimal}
use Rattle.ob_base.specs.declared.place.PathStep.{PathStep}
use Rattle.ob_base.specs.declared.place.PathStep.TheVariants.{Key, Item}

-- a key as it was written, an item by its number from 0
abbrev pub step_text : PathStep → List ℕ
step_text (Key name) = name
step_text (Item n) = decimal n

-- the steps with a dot between each two; the whole body is the empty text
abbrev pub path_text : List PathStep → List ℕ
path_text [] = []
path_text (step ∷ []) = step_text step
path_text (step ∷ next ∷ steps) = step_text step ++ 46 ∷ path_text (next ∷ steps)
