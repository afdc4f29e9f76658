-- A cell that is new is listed behind the others; one that was met is listed already.
use Rattle.ob_change.proofs.Gaining.{gains_pushed}
use Rattle.ob_change.proofs.MetCells.{listed-more, one-again, was-met}
use Rattle.ob_change.proofs.once.add_new.Goals as goal

pub returns-in_ok-push-clause-met : goal.returns-in_ok-push-clause-met
returns-in_ok-push-clause-met c =
    let once = c.args.once.now.items in
    let now = c.push.new.self.items in
    listed-more c.args.met.now c.insert.new.self c.args.cell c.in_ok-insert.ensures.updates.0 once now c.requires.met (gains_pushed once now c.args.cell c.in_ok-push.ensures.items)

pub returns-else-branch-clause-added : goal.returns-else-branch-clause-added
returns-else-branch-clause-added c =
    let before = was-met c.args.met.now c.insert.new.self c.args.cell c.in_ok-insert.field-0 c.in_ok-insert.ensures.added c.if-branch.false in
    one-again c.args.once.now.items c.args.cell (c.requires.met c.args.cell before)
