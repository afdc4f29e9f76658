use Rattle.ob_effect.proofs.CallSteps.{keeps_none}
use Rattle.ob_effect.proofs.ChangesBehind.{anyhow_err}
use Rattle.ob_effect.proofs.staged.stage_change.Goals as goal

pub returns-in_err-push-clause-kept : goal.returns-in_err-push-clause-kept
returns-in_err-push-clause-kept g c = anyhow_err c.from_residual.result (keeps_none g.K.Keeper c.args.engine.now)
