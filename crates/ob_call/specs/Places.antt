-- Places among the arguments of a call, as the code has them.
use Rattle.std.specs.Prelude.{◌≡◌, List, [], ◌∷◌, ⊤}
use Rattle.ob_base.specs.declared.place.PathStep.{PathStep}
use Rattle.ob_base.specs.declared.place.PathStep.TheVariants.{Key, Item}
use Rattle.ob_base.specs.declared.refusal.Refusal.{Refusal}
use Rattle.ob_base.specs.declared.refusal.Refusal.TheVariants as refusal
use Rattle.ob_call.specs.Arguments.{name_place, position_place}
use Rattle.ob_call.specs.declared.places.Below.{Below}
use Rattle.ob_call.specs.declared.places.Below.TheVariants as below
use Rattle.ob_call.specs.declared.places.Spot.{Spot}
use Rattle.ob_call.specs.declared.places.Spot.TheVariants as spot

-- the place of a spot
abbrev pub spot_place : Spot → List PathStep
spot_place (spot.Position number) = position_place number
spot_place (spot.Name name) = name_place name.now

-- the steps below an argument
abbrev pub below_steps : Below → List PathStep
below_steps below.Whole = []
below_steps (below.Item number) = Item number ∷ []
below_steps (below.Key name) = Key name.now ∷ []
below_steps (below.Place place) = place

-- the refusal tells this place, or want of memory
abbrev pub IsMalformedAt : List PathStep → Refusal → Type 0
IsMalformedAt place (refusal.Request told) = told ≡ place
IsMalformedAt place refusal.NoMemory = ⊤
IsMalformedAt place _ = ⊥
