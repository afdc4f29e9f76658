-- One id more.
use Rattle.ob_effect.proofs.FitTakings.{takes_then}
use Rattle.ob_effect.proofs.deletion.taking.add_found.Goals as goal

pub loop-id-preserved : goal.loop-id-preserved
loop-id-preserved c = λ models of.
    takes_then models c.args.deletion.now c.loop-id.deletion c.add_cell.new.deletion c.args.waiting.now.items c.loop-id.waiting.items c.add_cell.new.waiting.items (c.loop-id.invariant models of)
    (c.in_ok-add_cell.ensures models of)
