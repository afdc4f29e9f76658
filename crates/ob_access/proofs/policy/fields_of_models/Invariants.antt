-- The fields of the models so far.
use Rattle.std.proofs.Common.{◌≡◌, ◌-◌, map, take}
use Rattle.ob_access.specs.Policies.{field_access}
use Rattle.ob_schema.specs.Models.{fields_of}
use Rattle.ob_schema.specs.declared.info.ModelInfo.{ModelInfo}
use Rattle.ob_access.proofs.policy.fields_of_models.Given as goal

abbrev pub invariant-loop-number : goal.invariant-loop-number
invariant-loop-number l = l.fields ≡ map (λ (info : ModelInfo). map (field_access l.groups) (fields_of info)) (take (l.number - 1) l.schema)
