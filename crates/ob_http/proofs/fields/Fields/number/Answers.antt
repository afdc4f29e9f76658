-- The next field's digits, and those that all have.
use Rattle.std.proofs.Common.{◌≡◌, List, ℕ, true, not, Option, [], option_map, Bor, drop, ◌+◌, sym, ◌∙◌, ap}
use Rattle.std.specs.Str.{bytes_eq}
use Rattle.ob_http.specs.Spans.{values_at}
use Rattle.ob_http.proofs.FieldSpans.{no_span, named_next, none_left}
use Rattle.ob_http.proofs.Digits.{common_digits, refused, disagrees, tells, tells_absent, tells_unequal, not_decimal, told_apart}
use Rattle.ob_http.proofs.fields.Fields.number.Goals as goal

pub returns-in_default-clause-unequal : goal.returns-in_default-clause-unequal
returns-in_default-clause-unequal c =
    let found = option_map (λ (d : Bor (List ℕ)). d.now) c.loop-field.found in
    let later = values_at c.args.self.head.now c.args.name.now (drop (c.loop-field.field-index + 1) c.args.self.spans.now) in
    let decimal = not_decimal c.number_digits.result c.of.result.now c.number_digits.ensures c.in_default.is in
    let next = named_next c.args.self.head.now c.args.name.now c.args.self.spans.now c.loop-field.field-index no_span c.of.result.now c.loop-field-test.true
    (sym c.is_header_named.ensures ∙ c.if-not-is_header_named.false) c.of.ensures in
    λ _. tells_unequal _ (sym c.loop-field.invariant ∙ ap (common_digits found) next ∙ refused found c.of.result.now later decimal)

pub returns-in-Some-found-clause-unequal : goal.returns-in-Some-found-clause-unequal
returns-in-Some-found-clause-unequal c =
    let found = option_map (λ (d : Bor (List ℕ)). d.now) c.loop-field.found in
    let later = values_at c.args.self.head.now c.args.name.now (drop (c.loop-field.field-index + 1) c.args.self.spans.now) in
    let next = named_next c.args.self.head.now c.args.name.now c.args.self.spans.now c.loop-field.field-index no_span c.of.result.now c.loop-field-test.true
    (sym c.is_header_named.ensures ∙ c.if-not-is_header_named.false) c.of.ensures in
    let others : not (bytes_eq c.in-Some-found.earlier.now c.in-Some.digits.now) ≡ true
    = ap (λ (b : Bor (List ℕ)). not (bytes_eq b.now c.in-Some.digits.now)) (sym c.in-Some-found.earlier-is) ∙ sym c.ne.ensures ∙ c.if-ne.true in
    let apart = told_apart c.loop-field.found c.in-Some-found.earlier c.number_digits.result c.in-Some.digits c.of.result.now c.number_digits.ensures c.in-Some-found.is c.in-Some.is others in
    λ _. tells_unequal _ (sym c.loop-field.invariant ∙ ap (common_digits found) next ∙ disagrees found c.of.result.now later apart)

pub returns-in-Some-found-2-clause-number : goal.returns-in-Some-found-2-clause-number
returns-in-Some-found-2-clause-number c =
    let found = option_map (λ (d : Bor (List ℕ)). d.now) c.loop-field.found in
    let all = values_at c.args.self.head.now c.args.name.now c.args.self.spans.now in
    let past = none_left c.args.self.head.now c.args.name.now c.args.self.spans.now c.loop-field.field-index c.loop-field-test.false in
    (tells all c.in-Some-found-2.digits.now (sym c.loop-field.invariant ∙ ap (common_digits found) past ∙ ap (λ (f : Option (Bor (List ℕ))). common_digits (option_map (λ d. d.now) f) []) c.in-Some-found-2.is)).number

pub returns-in-Some-found-2-clause-digits : goal.returns-in-Some-found-2-clause-digits
returns-in-Some-found-2-clause-digits c =
    let found = option_map (λ (d : Bor (List ℕ)). d.now) c.loop-field.found in
    let all = values_at c.args.self.head.now c.args.name.now c.args.self.spans.now in
    let past = none_left c.args.self.head.now c.args.name.now c.args.self.spans.now c.loop-field.field-index c.loop-field-test.false in
    (tells all c.in-Some-found-2.digits.now (sym c.loop-field.invariant ∙ ap (common_digits found) past ∙ ap (λ (f : Option (Bor (List ℕ))). common_digits (option_map (λ d. d.now) f) []) c.in-Some-found-2.is)).digits

pub returns-in-Some-found-2-clause-no_zero : goal.returns-in-Some-found-2-clause-no_zero
returns-in-Some-found-2-clause-no_zero c =
    let found = option_map (λ (d : Bor (List ℕ)). d.now) c.loop-field.found in
    let all = values_at c.args.self.head.now c.args.name.now c.args.self.spans.now in
    let past = none_left c.args.self.head.now c.args.name.now c.args.self.spans.now c.loop-field.field-index c.loop-field-test.false in
    (tells all c.in-Some-found-2.digits.now (sym c.loop-field.invariant ∙ ap (common_digits found) past ∙ ap (λ (f : Option (Bor (List ℕ))). common_digits (option_map (λ d. d.now) f) []) c.in-Some-found-2.is)).no_zero

pub returns-in-None-clause-absent : goal.returns-in-None-clause-absent
returns-in-None-clause-absent c =
    let found = option_map (λ (d : Bor (List ℕ)). d.now) c.loop-field.found in
    let all = values_at c.args.self.head.now c.args.name.now c.args.self.spans.now in
    let past = none_left c.args.self.head.now c.args.name.now c.args.self.spans.now c.loop-field.field-index c.loop-field-test.false in
    λ _. tells_absent all (sym c.loop-field.invariant ∙ ap (common_digits found) past ∙ ap (λ (f : Option (Bor (List ℕ))). common_digits (option_map (λ d. d.now) f) []) c.in-None.is)
