-- A change behind a question.
use Rattle.ob_effect.proofs.Questions.{asks_changes, asks_keeps}
use Rattle.ob_effect.proofs.ChangesBehind.{anyhow_err, asked_on_err, asked_on_ok}
use Rattle.ob_effect.proofs.lists.take_out.Goals as goal

pub returns-in_err-before-clause-kept : goal.returns-in_err-before-clause-kept
returns-in_err-before-clause-kept g c = anyhow_err c.from_residual.result (asks_keeps g.K.Keeper c.args.engine.now c.value_at.new.engine c.value_at.ensures.asked)

pub returns-in_default-clause-changed : goal.returns-in_default-clause-changed
returns-in_default-clause-changed g c = asks_changes g.K.Keeper c.args.engine.now c.value_at.new.engine c.requires.usable c.value_at.ensures.asked

pub returns-in_err-ids-clause-kept : goal.returns-in_err-ids-clause-kept
returns-in_err-ids-clause-kept g c = anyhow_err c.from_residual-in_err-ids.result (asks_keeps g.K.Keeper c.args.engine.now c.value_at.new.engine c.value_at.ensures.asked)

pub returns-clause-changed : goal.returns-clause-changed
returns-clause-changed g c = asked_on_ok g.K.Keeper c.args.engine.now c.value_at.new.engine c.set_list.new.engine c.set_list.result c.requires.usable c.value_at.ensures.asked c.set_list.ensures.changed

pub returns-clause-kept : goal.returns-clause-kept
returns-clause-kept g c = asked_on_err g.K.Keeper c.args.engine.now c.value_at.new.engine c.set_list.new.engine c.set_list.result c.value_at.ensures.asked c.set_list.ensures.kept
