-- The digits found so far, and those of the fields that follow, are those of all.
use Rattle.std.proofs.Common.{◌≡◌, drop, None, option_map}
use Rattle.ob_http.specs.Spans.{values_at}
use Rattle.ob_http.proofs.Digits.{common_digits}
use Rattle.ob_http.proofs.fields.Fields.number.Given as goal

abbrev pub invariant-loop-field : goal.invariant-loop-field
invariant-loop-field l = common_digits (option_map (λ digits. digits.now) l.found) (values_at l.self.head.now l.name (drop l.field-index l.field-items))
    ≡ common_digits None (values_at l.self.head.now l.name l.self.spans.now)
