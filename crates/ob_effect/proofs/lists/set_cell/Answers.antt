use Rattle.ob_effect.proofs.CallSteps.{keeps_none}
use Rattle.ob_effect.proofs.ChangesBehind.{anyhow_err}
use Rattle.ob_effect.proofs.lists.set_cell.Goals as goal

pub returns-in_err-ids-clause-kept : goal.returns-in_err-ids-clause-kept
returns-in_err-ids-clause-kept g c = anyhow_err c.from_residual.result (keeps_none g.K.Keeper c.args.engine.now)
