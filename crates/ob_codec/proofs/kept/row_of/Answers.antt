use Rattle.std.proofs.Common.{filter, arith}
use Rattle.ob_schema.specs.Fields.{is_kept}
use Rattle.ob_codec.proofs.RowLaws.{few_kept, kept_at_is, read_ok, read_bad, read_only}
use Rattle.ob_codec.proofs.kept.row_of.Goals as goal

pub returns-clause-ok : goal.returns-clause-ok
returns-clause-ok c =
    let fields = c.fields.result.now in
    let same = kept_at_is c.args.schema.now c.args.model fields c.fields.ensures.same in
    rw same (read_ok (filter is_kept fields) c.args.bytes.now c.row_of_fields.result (λ i. omega (arith, c.type_inv.bytes i)) c.row_of_fields.ensures.read)

pub returns-clause-bad : goal.returns-clause-bad
returns-clause-bad c =
    let fields = c.fields.result.now in
    let same = kept_at_is c.args.schema.now c.args.model fields c.fields.ensures.same in
    rw same (read_bad (filter is_kept fields) c.args.bytes.now c.row_of_fields.result (omega (arith, few_kept fields c.fields.ensures.few)) c.row_of_fields.ensures.read)

pub returns-clause-only : goal.returns-clause-only
returns-clause-only c =
    let fields = c.fields.result.now in
    let same = kept_at_is c.args.schema.now c.args.model fields c.fields.ensures.same in
    rw same (λ values holds e. read_only (filter is_kept fields) c.args.bytes.now c.row_of_fields.result values (omega (arith, few_kept fields c.fields.ensures.few)) holds e c.row_of_fields.ensures.read)
