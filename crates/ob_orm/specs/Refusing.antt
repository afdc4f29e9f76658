-- How a call is refused by what its arguments ask for.
use Rattle.std.specs.Prelude.{◌≡◌, List, Result, Ok, Err}
use Rattle.ob_base.specs.declared.place.PathStep.{PathStep}
use Rattle.ob_base.specs.declared.refusal.Refusal.{Refusal}
use Rattle.ob_base.specs.declared.refusal.Refusal.TheVariants as refusal

-- what arguments ask for is refused so; or they are malformed, first at this place
abbrev pub RefusesAsked : {A : Type 0} → (A → Refusal → Type 0) → Result A (List PathStep) → Refusal → Type 0
RefusesAsked stops (Ok asked) why = stops asked why
RefusesAsked stops (Err place) (refusal.Request told) = told ≡ place
RefusesAsked stops (Err place) _ = ⊥
