use Rattle.ob_effect.proofs.CallSteps.{edits_none, fails, goes_asked, goes_kept, goes_none, unasked}
use Rattle.ob_effect.proofs.NotesKept.{notes_then}
use Rattle.ob_effect.proofs.effect.parents.note_dangling.Goals as goal

pub returns-in_err-id : goal.returns-in_err-id
returns-in_err-id g c =
    let a = c.args.engine.now in
    let by = c.args.writer.now.by in
    let why = c.in_err-id.field-0.0 in
    record {
      step = fails g.K.Keeper by c.from_residual.result c.args.notes.now a c.value_at.new.engine why c.from_residual.ensures.1
          (unasked g.K.Keeper by a a c.value_at.new.engine why (edits_none g.K.Keeper a c.requires.usable) c.value_at.ensures.asked c.in_err-id.ensures.causes);
    }

pub returns-in_default : goal.returns-in_default
returns-in_default g c =
    let a = c.args.engine.now in
    let n = c.args.notes.now in
    let far = goes_asked g.K.Keeper a a c.value_at.new.engine n (goes_none g.K.Keeper a n c.requires.usable c.requires.noted) c.value_at.ensures.asked in
    record { step = (far.edits, far.noted) }

pub loop-one-preserved : goal.loop-one-preserved
loop-one-preserved g c = notes_then c.args.writer.now.schema.now c.args.notes.now c.loop-one.notes c.note_behind.new.notes c.loop-one.invariant c.note_behind.ensures.noted

pub returns : goal.returns
returns g c =
    let a = c.args.engine.now in
    let n = c.args.notes.now in
    let models = c.args.writer.now.schema.now in
    let asked = goes_asked g.K.Keeper a a c.value_at.new.engine n (goes_none g.K.Keeper a n c.requires.usable c.requires.noted) c.value_at.ensures.asked in
    let more = notes_then models n c.loop-one.notes c.note_orders_behind.new.notes c.loop-one.invariant c.note_orders_behind.ensures.noted in
    let far = goes_kept g.K.Keeper a c.value_at.new.engine n c.note_orders_behind.new.notes models c.requires.writer.schema asked more in
    record { step = (far.edits, far.noted) }
