use Rattle.std.proofs.Common.{◌≡◌, ap, ◌∙◌}
use Rattle.ob_orm.specs.Create.{Asked}
use Rattle.ob_orm.specs.ObjectSteps.{object_view}
use Rattle.ob_orm.specs.CreateSteps.{rows_view}
use Rattle.ob_orm.proofs.CreateRows.{added, asked-push, first-kept, first-taken, with_object}
use Rattle.ob_orm.proofs.creating.rows.add_object.Goals as goal
use Rattle.ob_orm.proofs.creating.rows.add_object.Goals.{then-is_none+in-Some-1, then-is_none+in-None-1, else-is_none+in-Some-1, else-is_none+in-None-1}

pub returns-clause-given : goal.returns-clause-given
returns-clause-given c = λ is_list before far.
    let old = c.args.rows.now in
    let object = c.args.object in
    let more = added old c.push.new.self c.append.new.self object c.if-is_none.rows c.in_ok-push.ensures.items c.in_ok-append.ensures.items in
    let now : rows_view c.if-is_none.rows ≡ with_object (rows_view old) (object_view object) = elim c.if-is_none.branch [
      | then-is_none+in-Some-1 w ↦ more object.wrong w.rows-is (first-taken old.wrong object.wrong c.is_none.result c.is_none.ensures w.if-is_none.true)
      | then-is_none+in-None-1 w ↦ more object.wrong w.rows-is (first-taken old.wrong object.wrong c.is_none.result c.is_none.ensures w.if-is_none.true)
      | else-is_none+in-Some-1 w ↦ more old.wrong w.rows-is (first-kept old.wrong object.wrong c.is_none.result c.is_none.ensures w.if-is_none.false)
      | else-is_none+in-None-1 w ↦ more old.wrong w.rows-is (first-kept old.wrong object.wrong c.is_none.result c.is_none.ensures w.if-is_none.false)
    ] in
    now ∙ ap (λ (a : Asked). with_object a (object_view object)) far ∙ asked-push is_list before (object_view object)
