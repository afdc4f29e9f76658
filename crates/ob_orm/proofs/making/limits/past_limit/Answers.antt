use Rattle.std.proofs.Common.{rules, arith, get_or}
use Rattle.std.proofs.lemmas.List.{take_all}
use Rattle.std.proofs.lemmas.List.Elements.{All-more}
use Rattle.ob_orm.specs.NewRowSteps.{MakesWithin}
use Rattle.ob_orm.proofs.making.limits.past_limit.Goals as goal

pub loop-edit-preserved : goal.loop-edit-preserved
loop-edit-preserved c =
    let here : MakesWithin (get_or c.args.edits.now c.loop-edit.edit-index c.edit-item.result) = rw c.edit-item.is at (c.past_row.ensures.within c.in_default.is) in
    All-more MakesWithin c.args.edits.now c.loop-edit.edit-index c.edit-item.result c.loop-edit-test.true c.loop-edit.invariant here

pub returns-clause-within : goal.returns-clause-within
returns-clause-within c = λ _. rw (take_all c.loop-edit.edit-index c.args.edits.now c.loop-edit-test.false) at c.loop-edit.invariant
