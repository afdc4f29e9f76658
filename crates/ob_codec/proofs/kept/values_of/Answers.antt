use Rattle.std.proofs.Common.{◌+◌, drop, filter, sym, arith}
use Rattle.std.proofs.lemmas.List.{nil_from_length}
use Rattle.std.proofs.lemmas.Result.{err_from_is_err_and}
use Rattle.ob_schema.specs.Fields.{is_kept}
use Rattle.ob_codec.specs.RowReading.{body_values}
use Rattle.ob_codec.proofs.ReadingSteps.{kept_more, kept_pass, values_fail, values_more, values_pass, values_end, values_left}
use Rattle.ob_codec.proofs.kept.values_of.Goals as goal
use Rattle.ob_codec.proofs.kept.values_of.Goals.{then-is_kept+in_ok-value+in_ok-push, else-is_kept}

pub returns-in_err-value : goal.returns-in_err-value
returns-in_err-value c =
    let fields = c.args.fields.now in
    let i = c.loop-field.field-index in
    let more = kept_more fields i c.field-item.result (omega arith) c.field-item.is (sym c.if-is_kept.ensures) in
    let p = err_from_is_err_and c.from_residual.result c.from_residual.ensures.1 in
    rw (p.1, p.2) (values_fail (filter is_kept (drop i fields)) (filter is_kept (drop (i + 1) fields)) c.field-item.result c.loop-field.values c.loop-field.left.now (body_values (filter is_kept fields) c.args.bytes.now)
    c.in_err-value.field-0.0 more c.in_err-value.ensures c.loop-field.invariant)

pub loop-field-preserved : goal.loop-field-preserved
loop-field-preserved c =
    let fields = c.args.fields.now in
    let i = c.loop-field.field-index in
    let whole = body_values (filter is_kept fields) c.args.bytes.now in
    elim c.if-is_kept.branch [
      | then-is_kept+in_ok-value+in_ok-push w ↦ (let more = kept_more fields i c.field-item.result (omega arith) c.field-item.is (sym w.if-is_kept.ensures) in
          rw (w.values-is, w.in_ok-push.ensures.ok, w.left-is)
          (values_more (filter is_kept (drop i fields)) (filter is_kept (drop (i + 1) fields)) c.field-item.result c.loop-field.values
          c.loop-field.left.now w.in_ok-value.value w.in_ok-value.rest.now whole more w.in_ok-value.ensures c.loop-field.invariant))
      | else-is_kept w ↦ (let pass = kept_pass fields i c.field-item.result (omega arith) c.field-item.is (sym w.if-is_kept.ensures) in
          rw (w.values-is, w.left-is)
          (values_pass (filter is_kept (drop i fields)) (filter is_kept (drop (i + 1) fields)) c.loop-field.values c.loop-field.left.now whole pass c.loop-field.invariant))
    ]

pub returns-then-is_empty : goal.returns-then-is_empty
returns-then-is_empty c = values_end c.args.fields.now c.loop-field.field-index c.loop-field.values c.loop-field.left.now (body_values (filter is_kept c.args.fields.now) c.args.bytes.now) (omega arith)
    (nil_from_length c.loop-field.left.now (grind arith)) c.loop-field.invariant

pub returns-else-is_empty : goal.returns-else-is_empty
returns-else-is_empty c = values_left c.args.fields.now c.loop-field.field-index c.loop-field.values c.loop-field.left.now (body_values (filter is_kept c.args.fields.now) c.args.bytes.now) (omega arith) (grind arith) c.loop-field.invariant
