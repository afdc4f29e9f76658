-- A link of the row that is put in, or a change of a list.
use Rattle.ob_effect.proofs.CallSteps.{changes_last, edits_none, fails, goes_asked, goes_none, steps_last, unasked}
use Rattle.ob_effect.proofs.lists.link.Goals as goal

pub returns-in_err-is_there-in-Inverse : goal.returns-in_err-is_there-in-Inverse
returns-in_err-is_there-in-Inverse g c =
    let k = g.K.Keeper in let by = c.args.writer.now.by in let a = c.args.engine.now in let b = c.is_there.new.engine in
    let step = c.in_err-is_there-in-Inverse in let why = step.field-0.0 in
    record { step = fails k by c.from_residual.result c.args.notes.now a b why c.from_residual.ensures.1 (unasked k by a a b why (edits_none k a c.requires.usable) c.is_there.ensures.asked step.ensures.causes) }

pub returns-then-not-branch : goal.returns-then-not-branch
returns-then-not-branch g c =
    let k = g.K.Keeper in let a = c.args.engine.now in let notes = c.args.notes.now in
    let far = goes_asked k a a c.is_there.new.engine notes (goes_none k a notes c.requires.usable c.requires.noted) c.is_there.ensures.asked in
    record { step = (far.edits, far.noted) }

pub returns-else-not-branch : goal.returns-else-not-branch
returns-else-not-branch g c =
    let k = g.K.Keeper in let a = c.args.engine.now in let b = c.is_there.new.engine in let notes = c.args.notes.now in
    let far = goes_asked k a a b notes (goes_none k a notes c.requires.usable c.requires.noted) c.is_there.ensures.asked in
    record { step = steps_last k c.args.writer.now.by c.set_link.result notes c.set_link.new.notes a b c.set_link.new.engine far c.set_link.ensures.step }

pub returns-in-Mirror : goal.returns-in-Mirror
returns-in-Mirror g c =
    let k = g.K.Keeper in let a = c.args.engine.now in let notes = c.args.notes.now in let changes = c.put_in.ensures in
    record { step = changes_last k c.args.writer.now.by c.put_in.result notes a a c.put_in.new.engine (goes_none k a notes c.requires.usable c.requires.noted) changes.changed changes.kept changes.causes }

pub returns-in-Own : goal.returns-in-Own
returns-in-Own g c =
    let k = g.K.Keeper in let a = c.args.engine.now in let notes = c.args.notes.now in let call = c.put_in-in-Own in let changes = call.ensures in
    record { step = changes_last k c.args.writer.now.by call.result notes a a call.new.engine (goes_none k a notes c.requires.usable c.requires.noted) changes.changed changes.kept changes.causes }
