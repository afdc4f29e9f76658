-- Over sound tables rows can be followed.
use Rattle.std.proofs.Common.{subst}
use Rattle.ob_tables.specs.After.{after}
use Rattle.ob_tables.specs.Applying.{FirstBroken}
use Rattle.probe_models.proofs.Ties.{sound_ties}
use Rattle.probe_models.proofs.tables.put_applied.Goals as goal

pub put_answers-requires-clause-tied : goal.put_answers-requires-clause-tied
put_answers-requires-clause-tied c = λ sure. sound_ties c.in-Ok.after.models c.in-Ok.after.tables c.in-Ok.ensures.sound

pub put_unsound-requires-clause-first : goal.put_unsound-requires-clause-first
put_unsound-requires-clause-first c =
    let models = c.args.tables.now.models in
    subst (FirstBroken models (after models c.args.tables.now.tables c.args.then.now)) c.in-Err-Broken.field-0-is c.in-Err-Broken.ensures.broken
