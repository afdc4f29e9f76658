-- One field more.
use Rattle.std.proofs.Common.{arith}
use Rattle.ob_trigger.proofs.RowCells.{row-all, row-more, row-start}
use Rattle.ob_trigger.proofs.rows.mark_row.Goals as goal

pub loop-place-init : goal.loop-place-init
loop-place-init c = row-start c.args.schema.now c.args.marked.now c.args.model c.args.id

pub loop-place-preserved : goal.loop-place-preserved
loop-place-preserved c = row-more c.args.schema.now c.args.marked.now c.loop-place.marked c.mark_if_computed.new.marked c.args.model c.args.id c.loop-place.place c.in_ok-mark_if_computed.ensures c.loop-place.invariant

pub returns : goal.returns
returns c = row-all c.args.schema.now c.args.marked.now c.loop-place.marked c.args.model c.args.id c.loop-place.place
    (λ field there. let low = c.last_field-count.ensures field there in omega (arith, low, c.loop-place-test.false)) c.loop-place.invariant
