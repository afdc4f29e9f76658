-- The field that a criterion names, in a registry: a dotted name goes through relations.
use Rattle.std.specs.Prelude.{ℕ, ◌==◌, nat_le, List, [], ◌∷◌, length, Bool, false, Option, option_and_then, ok_or, Result, Ok, Err, if◌then◌else◌}
use Rattle.std.specs.List.{slice_split}
use Rattle.std.specs.Option.{option_map_or}
use Rattle.ob_base.specs.Chain.{◌>>=◌}
use Rattle.ob_base.specs.Limits.{max_dotted_steps}
use Rattle.ob_base.specs.declared.id.FieldNo.{FieldNo}
use Rattle.ob_base.specs.declared.id.ModelNo.{ModelNo}
use Rattle.ob_domain.specs.declared.aim.Aim.{Aim}
use Rattle.ob_domain.specs.declared.fault.Unfit.{Unfit}
use Rattle.ob_domain.specs.declared.fault.Unfit.TheVariants as unfit
use Rattle.ob_expr.specs.declared.typed.Link.{Link}
use Rattle.ob_schema.specs.Fields.{has_value_of}
use Rattle.ob_schema.specs.Models.{field_at, field_named, model_at}
use Rattle.ob_schema.specs.Paths.{step_at}
use Rattle.ob_schema.specs.declared.info.ModelInfo.{ModelInfo}
use Rattle.ob_schema.specs.declared.info.Step.{Step}

-- the steps of a name, with dots between them
abbrev pub steps_of : List ℕ → List (List ℕ)
steps_of name = slice_split (λ b. b == 46) name

module _ (models : List ModelInfo) where
  -- the field of a name of a model
  abbrev pub field_in : ModelNo → List ℕ → Option FieldNo
  field_in model name = option_and_then (λ info. field_named info.fields name) (model_at models model)

  -- it has a value in each row: a computed field is kept
  abbrev pub is_stored : Step → Bool
  is_stored at = option_map_or has_value_of (field_at models at.model at.field) false

  -- the field of a name, where it has values
  abbrev pub stored_field : ModelNo → List ℕ → Result Step Unfit
  stored_field model name = do
    number ← ok_or (field_in model name) unfit.Field
    if is_stored (step_at model number) then Ok (step_at model number) else Err unfit.NotStored

  -- the model whose rows a relation names
  abbrev pub target_at : Step → Option ModelNo
  target_at at = option_and_then (λ info. info.relation) (field_at models at.model at.field)

  -- the link that a relation is
  abbrev pub link_at : Step → Result Link Unfit
  link_at at = do
    target ← ok_or (target_at at) unfit.Operator
    Ok (record { field = at.field; target = target })

  -- each step but the last is a relation, and leads to the rows of the next one's model
  abbrev pub aim_along : ModelNo → List (List ℕ) → Result Aim Unfit
  aim_along model [] = Err unfit.Field
  aim_along model (name ∷ []) = do
    at ← stored_field model name
    Ok (record { links = []; field = at })
  aim_along model (name ∷ next ∷ names) = do
    at ← stored_field model name
    link ← link_at at
    aim ← aim_along link.target (next ∷ names)
    Ok (record { links = link ∷ aim.links; field = aim.field })

  -- the field of a dotted name, behind its links
  unfoldable pub aim_of : ModelNo → List ℕ → Result Aim Unfit
  aim_of model name = if nat_le (length (steps_of name)) max_dotted_steps then aim_along model (steps_of name) else Err unfit.Field
