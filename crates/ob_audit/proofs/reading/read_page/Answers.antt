use Rattle.std.proofs.lemmas.Result.{err_from_is_err_and}
use Rattle.ob_audit.proofs.ReadPages.{row-more, unread-among}
use Rattle.ob_audit.proofs.reading.read_page.Goals as goal

pub returns-in_err-read_row-clause-fault : goal.returns-in_err-read_row-clause-fault
returns-in_err-read_row-clause-fault c =
    let p = err_from_is_err_and c.from_residual.result c.from_residual.ensures.1 in
    let page = c.args.page.now in
    let row = c.row-item.result in
    rw (p.1, p.2) (unread-among c.args.schema.now c.args.model c.args.next page c.loop-row.row-index row c.in_err-read_row.field-0.0 c.args.rows.now c.loop-row.rows c.loop-row-test.true c.row-item.is
    c.loop-row.invariant c.in_err-read_row.ensures.fault)

pub loop-row-preserved : goal.loop-row-preserved
loop-row-preserved c =
    row-more c.args.schema.now c.args.model c.args.next c.args.page.now c.loop-row.row-index c.row-item.result c.args.rows.now c.loop-row.rows c.read_row.new.rows c.loop-row-test.true c.row-item.is
    c.loop-row.invariant c.in_ok-read_row.ensures.read
