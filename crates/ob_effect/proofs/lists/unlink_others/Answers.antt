-- One row more that is taken out, or that stays.
use Rattle.ob_effect.proofs.CallSteps.{edits_none, fails, goes_asked, goes_none, goes_stepped, stopped, unasked}
use Rattle.ob_effect.proofs.lists.unlink_others.Goals as goal
use Rattle.ob_effect.proofs.lists.unlink_others.Goals.{then-not-contains+in_ok-unlink, else-not-contains}

pub returns-in_err-before : goal.returns-in_err-before
returns-in_err-before g c =
    let k = g.K.Keeper in let by = c.args.writer.now.by in let a = c.args.engine.now in let b = c.ids_in.new.engine in let why = c.in_err-before.field-0.0 in
    record { step = fails k by c.from_residual.result c.args.notes.now a b why c.from_residual.ensures.1 (unasked k by a a b why (edits_none k a c.requires.usable) c.ids_in.ensures.asked c.in_err-before.ensures.causes) }

pub loop-id-init : goal.loop-id-init
loop-id-init g c =
    let k = g.K.Keeper in let a = c.args.engine.now in let notes = c.args.notes.now in
    goes_asked k a a c.ids_in.new.engine notes (goes_none k a notes c.requires.usable c.requires.noted) c.ids_in.ensures.asked

pub returns-in_err-unlink : goal.returns-in_err-unlink
returns-in_err-unlink g c =
    let k = g.K.Keeper in let by = c.args.writer.now.by in let a = c.args.engine.now in let b = c.loop-id.engine in let d = c.unlink.new.engine in let why = c.in_err-unlink.field-0.0 in
    let left = c.from_residual-in_err-unlink in
    record { step = fails k by left.result c.unlink.new.notes a d why left.ensures.1 (stopped k by a b d why c.loop-id.invariant.edits c.in_err-unlink.ensures.step) }

pub loop-id-preserved : goal.loop-id-preserved
loop-id-preserved g c =
    elim c.if-not-contains.branch [
      | then-not-contains+in_ok-unlink w ↦ rw (w.engine-is, w.notes-is)
          (goes_stepped g.K.Keeper c.args.engine.now c.loop-id.engine w.unlink.new.engine c.loop-id.notes w.unlink.new.notes c.loop-id.invariant w.in_ok-unlink.ensures.step)
      | else-not-contains w ↦ rw (w.engine-is, w.notes-is) c.loop-id.invariant
    ]
