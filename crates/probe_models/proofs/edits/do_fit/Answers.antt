use Rattle.std.proofs.Common.{All, subst}
use Rattle.std.proofs.lemmas.List.{take_all}
use Rattle.std.proofs.lemmas.List.Elements.{All-more}
use Rattle.ob_tables.specs.Fitting.{IsFitEdit}
use Rattle.probe_models.proofs.edits.do_fit.Goals as goal

pub loop-edit-preserved : goal.loop-edit-preserved
loop-edit-preserved c =
    All-more (IsFitEdit c.args.schema.now) c.args.edits.now c.loop-edit.edit-index c.edit-item.result c.loop-edit-test.true c.loop-edit.invariant
    (subst (IsFitEdit c.args.schema.now) c.edit-item.is (c.fits.ensures.fit c.if-not-fits.false))

pub returns : goal.returns
returns c = λ yes. subst (All (IsFitEdit c.args.schema.now)) (take_all c.loop-edit.edit-index c.args.edits.now c.loop-edit-test.false) c.loop-edit.invariant
