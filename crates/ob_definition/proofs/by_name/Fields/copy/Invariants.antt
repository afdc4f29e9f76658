use Rattle.std.proofs.Common.{◌≡◌, map, take}
use Rattle.ob_definition.specs.ByName.{declared_fields}
use Rattle.ob_definition.specs.Gathered.{field_at}
use Rattle.ob_definition.proofs.by_name.Fields.copy.Given as goal

abbrev pub invariant-loop-field : goal.invariant-loop-field
invariant-loop-field l = l.copy ≡ map (λ field. field_at l.entry field.def) (declared_fields (take l.field-index l.field-items))
