use Rattle.std.proofs.Common.{filter, arith}
use Rattle.std.proofs.lemmas.Result.{err_from_is_err_and}
use Rattle.ob_schema.specs.Fields.{is_kept}
use Rattle.ob_codec.proofs.RowLaws.{row_fail, row_more, read_holds}
use Rattle.ob_codec.proofs.kept.row_of_fields.Goals as goal

pub returns-in_err-rest-clause-read : goal.returns-in_err-rest-clause-read
returns-in_err-rest-clause-read c =
    let p = err_from_is_err_and c.from_residual.result c.from_residual.ensures.1 in
    rw (p.1, p.2) (row_fail (filter is_kept c.args.fields.now) c.args.body.now c.kept_count.result c.in_err-rest.field-0.0 c.kept_count.ensures c.in_err-rest.ensures)

pub returns-clause-read : goal.returns-clause-read
returns-clause-read c = row_more (filter is_kept c.args.fields.now) c.args.body.now c.kept_count.result c.in_ok-rest.rest.now c.values_of.result c.kept_count.ensures c.in_ok-rest.ensures c.values_of.ensures

pub returns-clause-holds : goal.returns-clause-holds
returns-clause-holds c =
    read_holds (filter is_kept c.args.fields.now) c.args.body.now c.values_of.result (λ i. omega (arith, c.type_inv.body i))
    (row_more (filter is_kept c.args.fields.now) c.args.body.now c.kept_count.result c.in_ok-rest.rest.now c.values_of.result c.kept_count.ensures c.in_ok-rest.ensures c.values_of.ensures)
