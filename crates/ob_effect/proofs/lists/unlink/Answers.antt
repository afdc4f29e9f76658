-- A change of a list.
use Rattle.ob_effect.proofs.CallSteps.{changes_last, goes_none}
use Rattle.ob_effect.proofs.lists.unlink.Goals as goal

pub returns-in-Mirror : goal.returns-in-Mirror
returns-in-Mirror g c =
    let k = g.K.Keeper in let a = c.args.engine.now in let notes = c.args.notes.now in let changes = c.take_out.ensures in
    record { step = changes_last k c.args.writer.now.by c.take_out.result notes a a c.take_out.new.engine (goes_none k a notes c.requires.usable c.requires.noted) changes.changed changes.kept changes.causes }

pub returns-in-Own : goal.returns-in-Own
returns-in-Own g c =
    let k = g.K.Keeper in let a = c.args.engine.now in let notes = c.args.notes.now in let call = c.take_out-in-Own in let changes = call.ensures in
    record { step = changes_last k c.args.writer.now.by call.result notes a a call.new.engine (goes_none k a notes c.requires.usable c.requires.noted) changes.changed changes.kept changes.causes }
