use Rattle.std.proofs.Common.{◌≡◌, filter, take}
use Rattle.ob_fields.specs.FieldsGetSteps.{may_read}
use Rattle.ob_fields.proofs.fields.readable.Given as goal

abbrev pub invariant-loop-field : goal.invariant-loop-field
invariant-loop-field l = l.told.items ≡ filter (λ field. may_read l.by l.model field) (take l.field-index l.fields)
