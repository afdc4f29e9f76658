use Rattle.ob_effect.proofs.CallSteps.{fails, goes_stepped, stopped}
use Rattle.ob_effect.proofs.effect.parents.change_parents.Goals as goal

pub returns-in_err-change_parent : goal.returns-in_err-change_parent
returns-in_err-change_parent g c =
    let a = c.args.engine.now in
    let by = c.args.writer.now.by in
    let why = c.in_err-change_parent.field-0.0 in
    record {
      step = fails g.K.Keeper by c.from_residual.result c.change_parent.new.notes a c.change_parent.new.engine why c.from_residual.ensures.1
          (stopped g.K.Keeper by a c.loop-parent.engine c.change_parent.new.engine why c.loop-parent.invariant.edits c.in_err-change_parent.ensures.step);
    }

pub loop-parent-preserved : goal.loop-parent-preserved
loop-parent-preserved g c =
    goes_stepped g.K.Keeper c.args.engine.now c.loop-parent.engine c.change_parent.new.engine c.loop-parent.notes c.change_parent.new.notes c.loop-parent.invariant c.in_ok-change_parent.ensures.step
