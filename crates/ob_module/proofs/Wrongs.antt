-- Where lists are wrong first.
use Rattle.std.proofs.Common.{◌≡◌, ℕ, List, [], ◌∷◌, drop, length, Option, refl}
use Rattle.ob_base.specs.declared.place.PathStep.{PathStep}
use Rattle.toml.specs.Data.{array}
use Rattle.toml.specs.View.{items_view}
use Rattle.toml.specs.declared.value.Value.{Value}
use Rattle.ob_module.specs.Forms.{Form, here, pair_of, wrong_item}

-- the first wrong item from a number on
abbrev pub wrong_from : Form → ℕ → List Value → Option (List PathStep)
wrong_from form n values = wrong_item form n (items_view (drop n values))

-- a list of another length is no pair
pub no-pair : (first second : Form) (values : List Value) → (length values ≡ 2 → ⊥) → pair_of first second (array (items_view values)) ≡ here
no-pair first second [] other = refl
no-pair first second (a ∷ []) other = refl
no-pair first second (a ∷ b ∷ []) other = absurd (other refl)
no-pair first second (a ∷ b ∷ v ∷ values) other = refl
