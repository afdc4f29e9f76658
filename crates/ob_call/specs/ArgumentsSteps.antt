-- What the parts of the code of a call's arguments stand for.
use Rattle.std.specs.Prelude.{ℕ, ◌&&◌, List, map, not, bytes_eq, if◌then◌else◌, Option, Some, None, option_map, Result, Ok, Err}
use Rattle.std.specs.List.{position}
use Rattle.ob_base.specs.declared.place.PathStep.{PathStep}
use Rattle.serde_json.specs.Data.{Data}
use Rattle.serde_json.specs.View.{view}
use Rattle.ob_call.specs.Arguments.{Expected, has_key, position_place, positioned}
use Rattle.ob_call.specs.Arguments as arguments
use Rattle.ob_call.specs.Places.{spot_place}
use Rattle.ob_call.specs.declared.arguments.Given.{Given}
use Rattle.ob_call.specs.declared.arguments.Parameter.{Parameter}

-- what a parameter expects, where its form has this fault
abbrev pub expected_of : {F : Type 0} → (F → Data → Option (List PathStep)) → Parameter F → Expected
expected_of fault p = record { name = p.name.now; required = p.required; fault = fault p.form }

-- the names of parameters
abbrev pub names_of : {F : Type 0} → List (Parameter F) → List (List ℕ)
names_of ps = map (λ p. p.name.now) ps

-- an argument that was given
abbrev pub given_of : Given → arguments.Given
given_of g = record { place = spot_place g.spot; json = view g.json.now }

-- the arguments that were given so far
abbrev pub all_given_of : List (Option Given) → List (Option arguments.Given)
all_given_of given = map (option_map given_of) given

-- nothing stands at a place: a fault, where it must be given and no name gives it
abbrev pub missing : List PathStep → Expected → Data → Result (Option arguments.Given) (List PathStep)
missing place p kw = if p.required && not (has_key p.name kw) then Err place else Ok None

-- what stands at a position, or is missing there
abbrev pub at_position : Data → ℕ → Expected → Option Data → Result (Option arguments.Given) (List PathStep)
at_position kw n p None = missing (position_place n) p kw
at_position kw n p (Some d) = positioned (position_place n) p d

-- the number of the first argument of a name
abbrev pub number_named : {F : Type 0} → List ℕ → List (Parameter F) → Option ℕ
number_named name ps = position (λ p. bytes_eq p.name.now name) ps
