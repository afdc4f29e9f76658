use Rattle.ob_effect.proofs.Questions.{spoiled_keeps, staged_edits}
use Rattle.ob_effect.proofs.staged.stage.Goals as goal

pub returns-in-Ok-clause-edited : goal.returns-in-Ok-clause-edited
returns-in-Ok-clause-edited g c =
    staged_edits g.K.Keeper c.args.engine.now c.stage.new.self c.args.edits.now c.stage.ensures.lender c.stage.ensures.same c.stage.ensures.cause.no_fall c.stage.ensures.models
    c.in-Ok.ensures.phase c.in-Ok.ensures.staged c.next_ids_after.ensures.rises

pub returns-in-Err-clause-kept : goal.returns-in-Err-clause-kept
returns-in-Err-clause-kept g c = spoiled_keeps g.K.Keeper c.args.engine.now c.stage.new.self c.stage.ensures.lender c.stage.ensures.cause.no_fall c.in-Err.ensures.spoiled
