-- Paths as steps from the rows of a model: those that an expression reads, and those that are declared.
use Rattle.std.specs.Prelude.{◌≡◌, ◌||◌, ◌++◌, ◌==◌, ℕ, List, [], ◌∷◌, not, if◌then◌else◌, Bool, Option, Some, None, Result, Ok, Err}
use Rattle.std.specs.List.{slice_split}
use Rattle.std.specs.Option.{option_map_or}
use Rattle.ob_base.specs.declared.id.FieldNo.{FieldNo}
use Rattle.ob_base.specs.declared.id.ModelNo.{ModelNo}
use Rattle.ob_expr.specs.declared.typed.Link.{Link}
use Rattle.ob_expr.specs.Chain.{and_then}
use Rattle.ob_expr.specs.Route.{Route}
use Rattle.ob_definition.specs.declared.definition.FieldDef.{FieldDef}
use Rattle.ob_schema.specs.declared.info.Step.{Step}
use Rattle.ob_definition.specs.Definitions.{is_computed, is_set}
use Rattle.ob_schema.specs.Finds.{relation_of}
use Rattle.ob_definition.specs.Gathered.{Gathered, model_of}
use Rattle.ob_definition.specs.Members.{Member, Role, delegated, members_of, model_at, model_number, named, number_of}

-- why a path isn't one: a name is no field, or a field is another than a path may have there
pub data PathFault : Type 0 where
  no_field : PathFault
  no_step : PathFault

abbrev pub step_at : ModelNo → FieldNo → Step
step_at model field = record { model = model; field = field }

-- the steps along links, and to the field at their end
abbrev pub steps_along : ModelNo → List Link → FieldNo → List Step
steps_along model [] field = step_at model field ∷ []
steps_along model (link ∷ links) field = step_at model link.field ∷ steps_along link.target links field

-- those of a path that an expression reads from a model
abbrev pub steps_of_route : ModelNo → Route → List Step
steps_of_route model route = steps_along model route.links route.field

-- the names of a path
abbrev pub split_path : List ℕ → List (List ℕ)
split_path text = slice_split (λ b. b == 46) text

-- steps end in this one
abbrev pub EndsIn : List Step → Step → Type 0
EndsIn steps last = (front : List Step) × (steps ≡ front ++ last ∷ [])

-- steps begin with these
abbrev pub BeginsWith : List Step → List Step → Type 0
BeginsWith steps front = (rest : List Step) × (steps ≡ front ++ rest)

-- a value that is there: of a plain field, or of a computed one that is kept
abbrev pub has_value : FieldDef → Bool
has_value f = not (is_computed f) || is_set f.store

-- the two steps of a delegated field
abbrev pub steps_behind : Step → Option ModelNo → FieldNo → List Step
steps_behind link None field = link ∷ []
steps_behind link (Some target) field = link ∷ step_at target field ∷ []

module _ (models : List Gathered) where
  -- the step through a field; the two of a delegated one
  abbrev pub steps_through : ModelNo → Gathered → List ℕ → Role → List Step
  steps_through number g name (delegated i) =
      option_map_or (λ p. steps_behind (step_at number (number_of models g i.link)) (model_number models i.model) (number_of models p name)) (model_of models i.model) []
  steps_through number g name _ = step_at number (number_of models g name) ∷ []

  -- the last step of a path
  abbrev pub end_with : ModelNo → Gathered → Option Member → Result (List Step) PathFault
  end_with number g None = Err no_field
  end_with number g (Some m) = if has_value m.def then Ok (steps_through number g m.def.name m.role) else Err no_step

  -- the plain relation by which a path goes on
  abbrev pub targets_of : FieldDef → Option ModelNo
  targets_of f = if is_computed f then None else relation_of models f

  -- on to the rows that a relation names
  abbrev pub go_on : ModelNo → Gathered → Option Member → (ModelNo → Result (List Step) PathFault) → Result (List Step) PathFault
  go_on number g None rest = Err no_field
  go_on number g (Some m) rest =
      option_map_or (λ target. and_then (rest target) (λ steps. Ok (steps_through number g m.def.name m.role ++ steps))) (targets_of m.def) (Err no_step)

  -- the steps of a declared path from the rows of a model: each but the last through a plain relation, the last to a field with a value; a delegated name stands for two
  abbrev pub path_from : ModelNo → List (List ℕ) → Result (List Step) PathFault
  path_from number [] = Err no_field
  path_from number (name ∷ []) = option_map_or (λ g. end_with number g (named (members_of models g) name)) (model_at models number.0) (Err no_field)
  path_from number (name ∷ next ∷ names) =
      option_map_or (λ g. go_on number g (named (members_of models g) name) (λ target. path_from target (next ∷ names))) (model_at models number.0) (Err no_field)
