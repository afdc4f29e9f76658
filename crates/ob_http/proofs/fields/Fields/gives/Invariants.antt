-- What the fields passed so far do not settle, those that follow do.
use Rattle.std.proofs.Common.{◌≡◌, drop}
use Rattle.std.specs.List.{list_any}
use Rattle.std.specs.Str.{str_eq_ignore_ascii_case}
use Rattle.ob_http.specs.Spans.{values_at}
use Rattle.ob_http.proofs.fields.Fields.gives.Given as goal

abbrev pub invariant-loop-field : goal.invariant-loop-field
invariant-loop-field l = list_any (λ found. str_eq_ignore_ascii_case found l.value) (values_at l.self.head.now l.name (drop l.field-index l.field-items))
    ≡ list_any (λ found. str_eq_ignore_ascii_case found l.value) (values_at l.self.head.now l.name l.self.spans.now)
