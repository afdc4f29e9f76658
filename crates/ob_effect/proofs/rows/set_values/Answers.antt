use Rattle.ob_effect.proofs.CallSteps.{changes_last, edits_none, fails, goes_asked, goes_kept, goes_none, starved, starves, unasked}
use Rattle.ob_effect.proofs.Questions.{asks_edits, asks_then}
use Rattle.ob_effect.proofs.rows.set_values.Goals as goal

pub returns-in_err-note_values : goal.returns-in_err-note_values
returns-in_err-note_values g c =
    let a = c.args.engine.now in
    let by = c.args.writer.now.by in
    let why = c.in_err-note_values.field-0.0 in
    record {
      step = fails g.K.Keeper by c.from_residual.result c.note_values.new.notes a a why c.from_residual.ensures.1
          (starved g.K.Keeper by a a why (edits_none g.K.Keeper a c.requires.usable) c.in_err-note_values.ensures.causes);
    }

pub returns-in_err-is_there : goal.returns-in_err-is_there
returns-in_err-is_there g c =
    let a = c.args.engine.now in
    let by = c.args.writer.now.by in
    let why = c.in_err-is_there.field-0.0 in
    record {
      step = fails g.K.Keeper by c.from_residual-in_err-is_there.result c.note_values.new.notes a c.is_there.new.engine why c.from_residual-in_err-is_there.ensures.1
          (unasked g.K.Keeper by a a c.is_there.new.engine why (edits_none g.K.Keeper a c.requires.usable) c.is_there.ensures.asked c.in_err-is_there.ensures.causes);
    }

pub returns-then-not-branch : goal.returns-then-not-branch
returns-then-not-branch g c =
    let a = c.args.engine.now in
    let begun = goes_none g.K.Keeper a c.args.notes.now c.requires.usable c.requires.noted in
    let noted = goes_kept g.K.Keeper a a c.args.notes.now c.note_values.new.notes c.args.writer.now.schema.now c.requires.writer.schema begun c.in_ok-note_values.ensures.noted in
    let far = goes_asked g.K.Keeper a a c.is_there.new.engine c.note_values.new.notes noted c.is_there.ensures.asked in
    record { step = (far.edits, far.noted) }

pub returns-in_err-note_changes : goal.returns-in_err-note_changes
returns-in_err-note_changes g c =
    let a = c.args.engine.now in
    let by = c.args.writer.now.by in
    let why = c.in_err-note_changes.field-0.0 in
    record {
      step = fails g.K.Keeper by c.from_residual-in_err-note_changes.result c.note_changes.new.notes a c.note_changes.new.engine why c.from_residual-in_err-note_changes.ensures.1
          (unasked g.K.Keeper by a c.is_there.new.engine c.note_changes.new.engine why (asks_edits g.K.Keeper a c.is_there.new.engine c.requires.usable c.is_there.ensures.asked)
          c.note_changes.ensures.asked c.in_err-note_changes.ensures.causes);
    }

pub returns-in_err-push_values : goal.returns-in_err-push_values
returns-in_err-push_values g c =
    let a = c.args.engine.now in
    let b = c.note_changes.new.engine in
    record {
      step = starves g.K.Keeper c.args.writer.now.by c.from_residual-in_err-push_values.result c.note_changes.new.notes a b c.from_residual-in_err-push_values.ensures.1
          (asks_edits g.K.Keeper a b c.requires.usable (asks_then g.K.Keeper a c.is_there.new.engine b c.is_there.ensures.asked c.note_changes.ensures.asked));
    }

pub returns-in_err-push_stamps : goal.returns-in_err-push_stamps
returns-in_err-push_stamps g c =
    let a = c.args.engine.now in
    let b = c.note_changes.new.engine in
    record {
      step = starves g.K.Keeper c.args.writer.now.by c.from_residual-in_err-push_stamps.result c.note_changes.new.notes a b c.from_residual-in_err-push_stamps.ensures.1
          (asks_edits g.K.Keeper a b c.requires.usable (asks_then g.K.Keeper a c.is_there.new.engine b c.is_there.ensures.asked c.note_changes.ensures.asked));
    }

pub returns : goal.returns
returns g c =
    let a = c.args.engine.now in
    let b = c.note_changes.new.engine in
    let models = c.args.writer.now.schema.now in
    let over = c.requires.writer.schema in
    let asked = asks_then g.K.Keeper a c.is_there.new.engine b c.is_there.ensures.asked c.note_changes.ensures.asked in
    let begun = goes_none g.K.Keeper a c.args.notes.now c.requires.usable c.requires.noted in
    let noted = goes_kept g.K.Keeper a a c.args.notes.now c.note_values.new.notes models over begun c.in_ok-note_values.ensures.noted in
    let far = goes_kept g.K.Keeper a b c.note_values.new.notes c.note_changes.new.notes models over (goes_asked g.K.Keeper a a b c.note_values.new.notes noted asked) c.in_ok-note_changes.ensures.noted in
    record { step = changes_last g.K.Keeper c.args.writer.now.by c.stage_changes.result c.note_changes.new.notes a b c.stage_changes.new.engine far c.stage_changes.ensures.changed c.stage_changes.ensures.kept c.stage_changes.ensures.causes }
