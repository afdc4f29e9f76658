use Rattle.std.proofs.Common.{◌≡◌, drop}
use Rattle.std.specs.Prelude.{find, not}
use Rattle.ob_query.specs.Callers.{may_read_field}
use Rattle.ob_query.proofs.naming.first_denied.Given as goal

abbrev pub invariant-loop-field : goal.invariant-loop-field
invariant-loop-field l = find (λ field. not (may_read_field l.by field)) l.fields ≡ find (λ field. not (may_read_field l.by field)) (drop l.field-index l.fields)
