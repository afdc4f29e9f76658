-- One row more.
use Rattle.ob_effect.proofs.CallSteps.{fails, goes_stepped, stopped}
use Rattle.ob_effect.proofs.lists.link_each.Goals as goal

pub returns-in_err-link : goal.returns-in_err-link
returns-in_err-link g c =
    let k = g.K.Keeper in let by = c.args.writer.now.by in let a = c.args.engine.now in let b = c.loop-id.engine in let d = c.link.new.engine in let why = c.in_err-link.field-0.0 in
    record { step = fails k by c.from_residual.result c.link.new.notes a d why c.from_residual.ensures.1 (stopped k by a b d why c.loop-id.invariant.edits c.in_err-link.ensures.step) }

pub loop-id-preserved : goal.loop-id-preserved
loop-id-preserved g c = goes_stepped g.K.Keeper c.args.engine.now c.loop-id.engine c.link.new.engine c.loop-id.notes c.link.new.notes c.loop-id.invariant c.in_ok-link.ensures.step
