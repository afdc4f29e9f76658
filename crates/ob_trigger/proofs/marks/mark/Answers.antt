-- One cell.
use Rattle.ob_trigger.proofs.Marking.{marked-one, marks-again, marks-new, was_false, was_true}
use Rattle.ob_trigger.specs.Marks.{has_mark}
use Rattle.ob_trigger.proofs.marks.mark.Goals as goal

pub returns-then-not-branch-clause-marked : goal.returns-then-not-branch-clause-marked
returns-then-not-branch-clause-marked c =
    marks-again c.args.marked.now c.insert.new.self c.args.waiting.now.items c.args.cell (marked-one c.args.marked.now c.insert.new.self c.args.cell c.in_ok-insert.ensures.updates.0)
    (was_true c.in_ok-insert.field-0 (has_mark c.args.marked.now c.args.cell) c.in_ok-insert.ensures.added c.if-not-branch.true)

pub returns-clause-marked : goal.returns-clause-marked
returns-clause-marked c =
    marks-new c.args.marked.now c.insert.new.self c.args.waiting.now.items c.push.new.self.items c.args.cell (marked-one c.args.marked.now c.insert.new.self c.args.cell c.in_ok-insert.ensures.updates.0)
    (was_false c.in_ok-insert.field-0 (has_mark c.args.marked.now c.args.cell) c.in_ok-insert.ensures.added c.if-not-branch.false) c.in_ok-push.ensures.items
