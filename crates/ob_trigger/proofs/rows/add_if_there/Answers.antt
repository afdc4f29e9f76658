-- One cell, if its row is there.
use Rattle.std.proofs.Common.{sym, ◌∙◌}
use Rattle.ob_trigger.proofs.Marking.{marked-one}
use Rattle.ob_trigger.proofs.RowCells.{left-out, put-there}
use Rattle.ob_trigger.proofs.rows.add_if_there.Goals as goal

pub returns-then-not-branch-clause-told : goal.returns-then-not-branch-clause-told
returns-then-not-branch-clause-told g c = λ sides tells. left-out sides.behind c.args.there.now c.args.cell (sym (c.in_ok-is_there.ensures.told sides tells) ∙ c.if-not-branch.true)

pub returns-clause-told : goal.returns-clause-told
returns-clause-told g c = λ sides tells. put-there sides.behind c.args.there.now c.insert.new.self c.args.cell (sym (c.in_ok-is_there.ensures.told sides tells) ∙ c.if-not-branch.false)
    (marked-one c.args.there.now c.insert.new.self c.args.cell c.in_ok-insert.ensures.updates.0)

pub returns-clause-among : goal.returns-clause-among
returns-clause-among g c = λ other marks. (marked-one c.args.there.now c.insert.new.self c.args.cell c.in_ok-insert.ensures.updates.0 other).0 marks
