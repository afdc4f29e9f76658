-- What the fields passed so far do not settle, those that follow do.
use Rattle.std.proofs.Common.{◌≡◌, drop}
use Rattle.std.specs.List.{list_any}
use Rattle.ob_http.specs.Message.{lists_word}
use Rattle.ob_http.specs.Spans.{values_at}
use Rattle.ob_http.proofs.fields.Fields.lists.Given as goal

abbrev pub invariant-loop-field : goal.invariant-loop-field
invariant-loop-field l = list_any (lists_word l.word) (values_at l.self.head.now l.name (drop l.field-index l.field-items))
    ≡ list_any (lists_word l.word) (values_at l.self.head.now l.name l.self.spans.now)
