use Rattle.ob_effect.proofs.CallSteps.{changes_last, edits_none, fails, forbidden, goes_asked, goes_kept, goes_none, goes_noted, starves, unasked}
use Rattle.ob_effect.proofs.Questions.{asks_edits}
use Rattle.ob_effect.proofs.rows.set_link.Goals as goal

pub returns-in_err-note_touch : goal.returns-in_err-note_touch
returns-in_err-note_touch g c =
    let a = c.args.engine.now in
    let by = c.args.writer.now.by in
    let why = c.in_err-note_touch.field-0.0 in
    record {
      step = fails g.K.Keeper by c.from_residual.result c.note_touch.new.notes a a why c.from_residual.ensures.1
          (forbidden g.K.Keeper by a a why (edits_none g.K.Keeper a c.requires.usable) c.in_err-note_touch.ensures.causes);
    }

pub returns-in_err-note_change : goal.returns-in_err-note_change
returns-in_err-note_change g c =
    let a = c.args.engine.now in
    let by = c.args.writer.now.by in
    let why = c.in_err-note_change.field-0.0 in
    record {
      step = fails g.K.Keeper by c.from_residual-in_err-note_change.result c.note_change.new.notes a c.note_change.new.engine why c.from_residual-in_err-note_change.ensures.1
          (unasked g.K.Keeper by a a c.note_change.new.engine why (edits_none g.K.Keeper a c.requires.usable) c.note_change.ensures.asked c.in_err-note_change.ensures.causes);
    }

pub returns-in_err-push : goal.returns-in_err-push
returns-in_err-push g c =
    let a = c.args.engine.now in
    record {
      step = starves g.K.Keeper c.args.writer.now.by c.from_residual-in_err-push.result c.note_change.new.notes a c.note_change.new.engine c.from_residual-in_err-push.ensures.1
          (asks_edits g.K.Keeper a c.note_change.new.engine c.requires.usable c.note_change.ensures.asked);
    }

pub returns-in_err-push_stamps : goal.returns-in_err-push_stamps
returns-in_err-push_stamps g c =
    let a = c.args.engine.now in
    record {
      step = starves g.K.Keeper c.args.writer.now.by c.from_residual-in_err-push_stamps.result c.note_change.new.notes a c.note_change.new.engine c.from_residual-in_err-push_stamps.ensures.1
          (asks_edits g.K.Keeper a c.note_change.new.engine c.requires.usable c.note_change.ensures.asked);
    }

pub returns : goal.returns
returns g c =
    let a = c.args.engine.now in
    let b = c.note_change.new.engine in
    let models = c.args.writer.now.schema.now in
    let over = c.requires.writer.schema in
    let touched = goes_noted g.K.Keeper a a c.args.notes.now c.note_touch.new.notes models over (goes_none g.K.Keeper a c.args.notes.now c.requires.usable c.requires.noted) c.in_ok-note_touch.ensures.noted in
    let far = goes_kept g.K.Keeper a b c.note_touch.new.notes c.note_change.new.notes models over (goes_asked g.K.Keeper a a b c.note_touch.new.notes touched c.note_change.ensures.asked) c.in_ok-note_change.ensures.noted in
    record { step = changes_last g.K.Keeper c.args.writer.now.by c.stage_changes.result c.note_change.new.notes a b c.stage_changes.new.engine far c.stage_changes.ensures.changed c.stage_changes.ensures.kept c.stage_changes.ensures.causes }
