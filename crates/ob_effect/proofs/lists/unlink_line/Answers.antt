-- A deletion, or a link that is unset, behind a question.
use Rattle.ob_effect.proofs.CallSteps.{edits_none, fails, goes_asked, goes_none, steps_last, unasked}
use Rattle.ob_effect.proofs.lists.unlink_line.Goals as goal

pub returns-in_err-is_there : goal.returns-in_err-is_there
returns-in_err-is_there g c =
    let k = g.K.Keeper in let by = c.args.writer.now.by in let a = c.args.engine.now in let b = c.is_there.new.engine in let why = c.in_err-is_there.field-0.0 in
    record { step = fails k by c.from_residual.result c.args.notes.now a b why c.from_residual.ensures.1 (unasked k by a a b why (edits_none k a c.requires.usable) c.is_there.ensures.asked c.in_err-is_there.ensures.causes) }

pub returns-then-not-branch : goal.returns-then-not-branch
returns-then-not-branch g c =
    let k = g.K.Keeper in let a = c.args.engine.now in let notes = c.args.notes.now in
    let far = goes_asked k a a c.is_there.new.engine notes (goes_none k a notes c.requires.usable c.requires.noted) c.is_there.ensures.asked in
    record { step = (far.edits, far.noted) }

pub returns-in-Cascade : goal.returns-in-Cascade
returns-in-Cascade g c =
    let k = g.K.Keeper in let a = c.args.engine.now in let b = c.is_there.new.engine in let notes = c.args.notes.now in
    let far = goes_asked k a a b notes (goes_none k a notes c.requires.usable c.requires.noted) c.is_there.ensures.asked in
    record { step = steps_last k c.args.writer.now.by c.delete.result notes c.delete.new.notes a b c.delete.new.engine far c.delete.ensures.step }

pub returns-in_default : goal.returns-in_default
returns-in_default g c =
    let k = g.K.Keeper in let a = c.args.engine.now in let b = c.is_there.new.engine in let notes = c.args.notes.now in
    let far = goes_asked k a a b notes (goes_none k a notes c.requires.usable c.requires.noted) c.is_there.ensures.asked in
    record { step = steps_last k c.args.writer.now.by c.set_link.result notes c.set_link.new.notes a b c.set_link.new.engine far c.set_link.ensures.step }
