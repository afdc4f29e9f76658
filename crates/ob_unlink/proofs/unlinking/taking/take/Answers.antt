-- One row.
use Rattle.ob_rows.proofs.CallerLemmas.{row-one}
use Rattle.ob_unlink.proofs.TakenRows.{takes-again, takes-new, was_false, was_true}
use Rattle.ob_rows.specs.RowSets.{has_key}
use Rattle.ob_unlink.proofs.unlinking.taking.take.Goals as goal

pub returns-then-not-branch-clause-rows : goal.returns-then-not-branch-clause-rows
returns-then-not-branch-clause-rows c =
    takes-again c.args.rows.now c.insert.new.self c.args.waiting.now.items c.args.row (row-one c.args.rows.now c.insert.new.self c.args.row c.in_ok-insert.ensures.updates.0)
    (was_true c.in_ok-insert.field-0 (has_key c.args.rows.now c.args.row) c.in_ok-insert.ensures.added c.if-not-branch.true)

pub returns-clause-rows : goal.returns-clause-rows
returns-clause-rows c =
    takes-new c.args.rows.now c.insert.new.self c.args.waiting.now.items c.push.new.self.items c.args.row (row-one c.args.rows.now c.insert.new.self c.args.row c.in_ok-insert.ensures.updates.0)
    (was_false c.in_ok-insert.field-0 (has_key c.args.rows.now c.args.row) c.in_ok-insert.ensures.added c.if-not-branch.false) c.in_ok-push.ensures.items
