-- The length by its checks.
use Rattle.std.proofs.Common.{Err, sym, ap, ◌∙◌, codes}
use Rattle.std.specs.Str.Parse.{digits_value}
use Rattle.ob_http.specs.Spans.{values_at}
use Rattle.ob_http.proofs.Messages.{length_alone, length_absent, length_unequal, length_told, length_over, of_texts}
use Rattle.ob_http.proofs.head.length_of.Goals as goal

pub returns-in-Some : goal.returns-in-Some
returns-in-Some c =
    let texts = values_at c.args.fields.head.now (codes "content-length") c.args.fields.spans.now in
    let n = digits_value 10 c.in-Ok.digits.now in
    let alone = length_alone c.args.fields.head.now c.args.fields.spans.now (sym c.has.ensures ∙ c.if-has.false) (of_texts texts n c.in-Ok.ensures.number) in
    sym (length_told _ texts n c.body_length.result c.in-Some.length alone c.in-Ok.ensures.number c.body_length.ensures c.in-Some.is)

pub returns-in-None : goal.returns-in-None
returns-in-None c =
    let texts = values_at c.args.fields.head.now (codes "content-length") c.args.fields.spans.now in
    let n = digits_value 10 c.in-Ok.digits.now in
    let alone = length_alone c.args.fields.head.now c.args.fields.spans.now (sym c.has.ensures ∙ c.if-has.false) (of_texts texts n c.in-Ok.ensures.number) in
    sym (length_over _ texts n c.body_length.result alone c.in-Ok.ensures.number c.body_length.ensures c.in-None.is)

pub returns-in-Err-Absent : goal.returns-in-Err-Absent
returns-in-Err-Absent c = sym (length_absent c.args.fields.head.now c.args.fields.spans.now _ (c.number.ensures.absent (c.in-Err-Absent.is ∙ ap Err c.in-Err-Absent.field-0-is)))

pub returns-in-Err-Unequal : goal.returns-in-Err-Unequal
returns-in-Err-Unequal c =
    let texts = values_at c.args.fields.head.now (codes "content-length") c.args.fields.spans.now in
    let known = c.number.ensures.unequal (c.in-Err-Unequal.is ∙ ap Err c.in-Err-Unequal.field-0-is) in
    let alone = length_alone c.args.fields.head.now c.args.fields.spans.now (sym c.has.ensures ∙ c.if-has.false) known.0 in
    sym (length_unequal _ texts alone known.1)
