use Rattle.std.proofs.Common.{◌≡◌, filter, take}
use Rattle.ob_query.specs.Callers.{may_read_field}
use Rattle.ob_schema.specs.Paths.{step_at}
use Rattle.ob_query.proofs.searching.sought.told_fields.Given as goal

abbrev pub invariant-loop-field : goal.invariant-loop-field
invariant-loop-field l = l.told.items ≡ filter (λ field. may_read_field l.by (step_at l.model field)) (take l.field-index l.fields)
