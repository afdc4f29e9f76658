-- The fields so far.
use Rattle.std.proofs.Common.{◌≡◌, ◌++◌, map, take}
use Rattle.ob_access.specs.Policies.{field_access}
use Rattle.ob_access.proofs.policy.fields_of_model.Given as goal

abbrev pub invariant-loop-field : goal.invariant-loop-field
invariant-loop-field l = l.fields ≡ map (field_access l.groups) (take l.field-index l.field-items)

abbrev pub invariant-loop-field-2 : goal.invariant-loop-field-2
invariant-loop-field-2 l = l.fields ≡ map (field_access l.groups) l.info.fields ++ map (field_access l.groups) (take l.field-index l.field-items)
