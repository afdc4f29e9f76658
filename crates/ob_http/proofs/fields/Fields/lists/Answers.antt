-- A value settles the question where it is the one asked for; a field of another name leaves it to later ones.
use Rattle.std.proofs.Common.{ℕ, List, true, ◌≡◌, get_or, sym, ◌∙◌, ap}
use Rattle.std.specs.List.{list_any}
use Rattle.httparse.specs.Spans.{span_bytes}
use Rattle.ob_http.specs.Message.{lists_word}
use Rattle.ob_http.proofs.FieldSpans.{no_span, settled, unsettled, passed_by}
use Rattle.ob_http.proofs.fields.Fields.lists.Goals as goal
use Rattle.ob_http.proofs.fields.Fields.lists.Goals.{else-is_header_named-via-then-is_header_named+else-lists_word, else-is_header_named-via-else-is_header_named}

pub returns-then-lists_word : goal.returns-then-lists_word
returns-then-lists_word c =
    let passes : lists_word c.args.word.now (span_bytes c.args.self.head.now (get_or c.args.self.spans.now c.loop-field.field-index no_span).value) ≡ true
    = ap (λ text. lists_word c.args.word.now text) (sym c.of.ensures) ∙ sym c.lists_word.ensures ∙ c.if-lists_word.true in
    sym (settled (λ found. lists_word c.args.word.now found) c.args.self.head.now c.args.name.now c.args.self.spans.now c.loop-field.field-index no_span
    c.loop-field-test.true (sym c.is_header_named.ensures ∙ c.if-is_header_named.true) passes) ∙ c.loop-field.invariant

pub loop-field-preserved : goal.loop-field-preserved
loop-field-preserved c =
    let test = λ (found : List ℕ). lists_word c.args.word.now found in
    elim c.else-is_header_named.branch [
      | else-is_header_named-via-then-is_header_named+else-lists_word w ↦
          unsettled test c.args.self.head.now c.args.name.now c.args.self.spans.now c.loop-field.field-index no_span c.loop-field-test.true
          (ap test (sym w.of.ensures) ∙ sym w.lists_word.ensures ∙ w.if-lists_word.false) ∙ c.loop-field.invariant
      | else-is_header_named-via-else-is_header_named w ↦
          ap (list_any test) (passed_by c.args.self.head.now c.args.name.now c.args.self.spans.now c.loop-field.field-index no_span c.loop-field-test.true
          (sym c.is_header_named.ensures ∙ w.if-is_header_named.false)) ∙ c.loop-field.invariant
    ]
