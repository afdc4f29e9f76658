use Rattle.ob_orm.proofs.EditTouches.{asks-again}
use Rattle.ob_orm.proofs.touching.ask.Goals as goal

pub returns-else-not-is_asked-clause-asked : goal.returns-else-not-is_asked-clause-asked
returns-else-not-is_asked-clause-asked c = asks-again c.args.askings.now.items (c.args.op, c.args.model) (rw c.as_slice.ensures.value at (c.is_asked.ensures c.if-not-is_asked.false))
