use Rattle.std.proofs.Common.{◌+◌, drop, filter, sym, arith}
use Rattle.ob_schema.specs.Fields.{is_kept}
use Rattle.ob_codec.proofs.ReadingSteps.{kept_more}
use Rattle.ob_codec.proofs.RowLaws.{first_held}
use Rattle.ob_codec.proofs.kept.put_fields.Goals as goal

pub put_field-requires-clause-value : goal.put_field-requires-clause-value
put_field-requires-clause-value c =
    let fields = c.args.fields.now in
    let i = c.loop-field.field-index in
    let more = kept_more fields i c.field-item.result (omega arith) c.field-item.is (sym c.if-is_kept.ensures) in
    first_held (filter is_kept (drop i fields)) (filter is_kept (drop (i + 1) fields)) c.field-item.result c.loop-field.left.now c.value-item.result more c.loop-field.invariant.holds c.in-len1-up.len_at_least c.value-item.is
