-- A change behind a question.
use Rattle.ob_effect.proofs.Questions.{asks_changes, asks_keeps}
use Rattle.ob_effect.proofs.ChangesBehind.{anyhow_err, asked_on_err, asked_on_ok}
use Rattle.ob_effect.proofs.lists.set_own.Goals as goal

pub returns-in_err-is_there-clause-kept : goal.returns-in_err-is_there-clause-kept
returns-in_err-is_there-clause-kept g c = anyhow_err c.from_residual.result (asks_keeps g.K.Keeper c.args.engine.now c.is_there.new.engine c.is_there.ensures.asked)

pub returns-then-not-branch-clause-changed : goal.returns-then-not-branch-clause-changed
returns-then-not-branch-clause-changed g c = asks_changes g.K.Keeper c.args.engine.now c.is_there.new.engine c.requires.usable c.is_there.ensures.asked

pub returns-clause-changed : goal.returns-clause-changed
returns-clause-changed g c = asked_on_ok g.K.Keeper c.args.engine.now c.is_there.new.engine c.set_cell.new.engine c.set_cell.result c.requires.usable c.is_there.ensures.asked c.set_cell.ensures.changed

pub returns-clause-kept : goal.returns-clause-kept
returns-clause-kept g c = asked_on_err g.K.Keeper c.args.engine.now c.is_there.new.engine c.set_cell.new.engine c.set_cell.result c.is_there.ensures.asked c.set_cell.ensures.kept
