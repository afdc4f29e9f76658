-- A change of the list's own row, or rows that are taken out and put in.
use Rattle.ob_effect.proofs.CallSteps.{Goes, changes_last, edits_none, goes_none, starves, steps_last}
use Rattle.ob_effect.proofs.lists.set.Goals as goal

pub returns-in_err-wanted : goal.returns-in_err-wanted
returns-in_err-wanted g c =
    let k = g.K.Keeper in let a = c.args.engine.now in
    record { step = starves k c.args.writer.now.by c.from_residual.result c.args.notes.now a a c.from_residual.ensures.1 (edits_none k a c.requires.usable) }

pub returns-in-Own : goal.returns-in-Own
returns-in-Own g c =
    let k = g.K.Keeper in let a = c.args.engine.now in let notes = c.args.notes.now in let changes = c.set_own.ensures in
    record { step = changes_last k c.args.writer.now.by c.set_own.result notes a a c.set_own.new.engine (goes_none k a notes c.requires.usable c.requires.noted) changes.changed changes.kept changes.causes }

pub returns : goal.returns
returns g c =
    let k = g.K.Keeper in let a = c.args.engine.now in let b = c.unlink_others.new.engine in let notes = c.unlink_others.new.notes in
    let first = c.in_ok-unlink_others-in_default.ensures.step in
    let far : Goes k a b notes = record { edits = first.0; noted = first.1 } in
    record { step = steps_last k c.args.writer.now.by c.link_each.result notes c.link_each.new.notes a b c.link_each.new.engine far c.link_each.ensures.step }
