-- What goes is noted, and its edits are one change behind questions.
use Rattle.ob_effect.proofs.CallSteps.{changes_last, edits_none, fails, forbidden, goes_asked, goes_kept, goes_none, goes_noted, starved, starves, unasked}
use Rattle.ob_effect.proofs.Questions.{asks_edits, asks_then}
use Rattle.ob_effect.proofs.deletion.delete.Goals as goal

pub returns-in_err-note_touch : goal.returns-in_err-note_touch
returns-in_err-note_touch g c =
    let k = g.K.Keeper in let by = c.args.writer.now.by in let a = c.args.engine.now in let why = c.in_err-note_touch.field-0.0 in
    record { step = fails k by c.from_residual.result c.note_touch.new.notes a a why c.from_residual.ensures.1 (forbidden k by a a why (edits_none k a c.requires.usable) c.in_err-note_touch.ensures.causes) }

pub returns-in_err-is_there : goal.returns-in_err-is_there
returns-in_err-is_there g c =
    let k = g.K.Keeper in let by = c.args.writer.now.by in let a = c.args.engine.now in let b = c.is_there.new.engine in let why = c.in_err-is_there.field-0.0 in
    let left = c.from_residual-in_err-is_there in
    record { step = fails k by left.result c.note_touch.new.notes a b why left.ensures.1 (unasked k by a a b why (edits_none k a c.requires.usable) c.is_there.ensures.asked c.in_err-is_there.ensures.causes) }

pub returns-then-not-branch : goal.returns-then-not-branch
returns-then-not-branch g c =
    let k = g.K.Keeper in let a = c.args.engine.now in let before = c.args.notes.now in let notes = c.note_touch.new.notes in
    let noted = goes_noted k a a before notes c.args.writer.now.schema.now c.requires.writer.schema (goes_none k a before c.requires.usable c.requires.noted) c.in_ok-note_touch.ensures.noted in
    let far = goes_asked k a a c.is_there.new.engine notes noted c.is_there.ensures.asked in
    record { step = (far.edits, far.noted) }

pub returns-in_err-deletion : goal.returns-in_err-deletion
returns-in_err-deletion g c =
    let k = g.K.Keeper in let by = c.args.writer.now.by in let a = c.args.engine.now in let b = c.is_there.new.engine in let d = c.deletion_of.new.engine in
    let why = c.in_err-deletion.field-0.0 in let left = c.from_residual-in_err-deletion in
    record {
      step = fails k by left.result c.note_touch.new.notes a d why left.ensures.1
          (unasked k by a b d why (asks_edits k a b c.requires.usable c.is_there.ensures.asked) c.deletion_of.ensures.asked c.in_err-deletion.ensures.causes);
    }

pub returns-in_err-note_rows : goal.returns-in_err-note_rows
returns-in_err-note_rows g c =
    let k = g.K.Keeper in let by = c.args.writer.now.by in let a = c.args.engine.now in let b = c.is_there.new.engine in let d = c.deletion_of.new.engine in
    let why = c.in_err-note_rows.field-0.0 in let left = c.from_residual-in_err-note_rows in
    let asked = asks_then k a b d c.is_there.ensures.asked c.deletion_of.ensures.asked in
    record { step = fails k by left.result c.note_rows.new.notes a d why left.ensures.1 (starved k by a d why (asks_edits k a d c.requires.usable asked) c.in_err-note_rows.ensures.causes) }

pub returns-in_err-push_left : goal.returns-in_err-push_left
returns-in_err-push_left g c =
    let k = g.K.Keeper in let by = c.args.writer.now.by in let a = c.args.engine.now in let b = c.is_there.new.engine in let d = c.deletion_of.new.engine in let e = c.push_left.new.engine in
    let why = c.in_err-push_left.field-0.0 in let left = c.from_residual-in_err-push_left in
    let asked = asks_then k a b d c.is_there.ensures.asked c.deletion_of.ensures.asked in
    record {
      step = fails k by left.result c.note_rows.new.notes a e why left.ensures.1 (unasked k by a d e why (asks_edits k a d c.requires.usable asked) c.push_left.ensures.asked c.in_err-push_left.ensures.causes);
    }

pub returns-in_err-push_gone : goal.returns-in_err-push_gone
returns-in_err-push_gone g c =
    let k = g.K.Keeper in let a = c.args.engine.now in let b = c.is_there.new.engine in let d = c.deletion_of.new.engine in let e = c.push_left.new.engine in
    let left = c.from_residual-in_err-push_gone in
    let asked = asks_then k a d e (asks_then k a b d c.is_there.ensures.asked c.deletion_of.ensures.asked) c.push_left.ensures.asked in
    record { step = starves k c.args.writer.now.by left.result c.note_rows.new.notes a e left.ensures.1 (asks_edits k a e c.requires.usable asked) }

pub returns : goal.returns
returns g c =
    let k = g.K.Keeper in let a = c.args.engine.now in let b = c.is_there.new.engine in let d = c.deletion_of.new.engine in let e = c.push_left.new.engine in
    let before = c.args.notes.now in let touched = c.note_touch.new.notes in let notes = c.note_rows.new.notes in
    let models = c.args.writer.now.schema.now in let over = c.requires.writer.schema in
    let asked = asks_then k a d e (asks_then k a b d c.is_there.ensures.asked c.deletion_of.ensures.asked) c.push_left.ensures.asked in
    let first = goes_noted k a a before touched models over (goes_none k a before c.requires.usable c.requires.noted) c.in_ok-note_touch.ensures.noted in
    let second = goes_kept k a a touched notes models over first c.in_ok-note_rows.ensures.noted in
    let changes = c.stage_changes.ensures in
    record { step = changes_last k c.args.writer.now.by c.stage_changes.result notes a e c.stage_changes.new.engine (goes_asked k a a e notes second asked) changes.changed changes.kept changes.causes }
