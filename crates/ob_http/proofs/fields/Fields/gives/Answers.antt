-- A value settles the question where it is the one asked for; a field of another name leaves it to later ones.
use Rattle.std.proofs.Common.{ℕ, List, true, ◌≡◌, get_or, sym, ◌∙◌, ap}
use Rattle.std.specs.List.{list_any}
use Rattle.std.specs.Str.{str_eq_ignore_ascii_case}
use Rattle.httparse.specs.Spans.{span_bytes}
use Rattle.ob_http.proofs.FieldSpans.{no_span, settled, unsettled, passed_by}
use Rattle.ob_http.proofs.fields.Fields.gives.Goals as goal
use Rattle.ob_http.proofs.fields.Fields.gives.Goals.{else-is_header_named-via-then-is_header_named+else-is_same_text, else-is_header_named-via-else-is_header_named}

pub returns-then-is_same_text : goal.returns-then-is_same_text
returns-then-is_same_text c =
    let passes : str_eq_ignore_ascii_case (span_bytes c.args.self.head.now (get_or c.args.self.spans.now c.loop-field.field-index no_span).value) c.args.value.now ≡ true
    = ap (λ text. str_eq_ignore_ascii_case text c.args.value.now) (sym c.of.ensures) ∙ sym c.is_same_text.ensures ∙ c.if-is_same_text.true in
    sym (settled (λ found. str_eq_ignore_ascii_case found c.args.value.now) c.args.self.head.now c.args.name.now c.args.self.spans.now c.loop-field.field-index no_span
    c.loop-field-test.true (sym c.is_header_named.ensures ∙ c.if-is_header_named.true) passes) ∙ c.loop-field.invariant

pub loop-field-preserved : goal.loop-field-preserved
loop-field-preserved c =
    let test = λ (found : List ℕ). str_eq_ignore_ascii_case found c.args.value.now in
    elim c.else-is_header_named.branch [
      | else-is_header_named-via-then-is_header_named+else-is_same_text w ↦
          unsettled test c.args.self.head.now c.args.name.now c.args.self.spans.now c.loop-field.field-index no_span c.loop-field-test.true
          (ap test (sym w.of.ensures) ∙ sym w.is_same_text.ensures ∙ w.if-is_same_text.false) ∙ c.loop-field.invariant
      | else-is_header_named-via-else-is_header_named w ↦
          ap (list_any test) (passed_by c.args.self.head.now c.args.name.now c.args.self.spans.now c.loop-field.field-index no_span c.loop-field-test.true
          (sym c.is_header_named.ensures ∙ w.if-is_header_named.false)) ∙ c.loop-field.invariant
    ]
