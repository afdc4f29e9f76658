use Rattle.std.proofs.Common.{All, subst}
use Rattle.std.proofs.lemmas.List.{take_all}
use Rattle.std.proofs.lemmas.List.Elements.{All-more}
use Rattle.ob_base.specs.declared.id.ModelNo.{ModelNo}
use Rattle.ob_cache.specs.Standing.{max_next_id}
use Rattle.ob_tables.specs.Changes.{MakesBelow}
use Rattle.probe_models.proofs.steps.are_low.Goals as goal

pub loop-edit-preserved : goal.loop-edit-preserved
loop-edit-preserved c =
    All-more (λ one. (model : ModelNo) → MakesBelow model max_next_id one) c.args.edits.now c.loop-edit.edit-index c.edit-item.result c.loop-edit-test.true c.loop-edit.invariant
    (subst (λ one. (model : ModelNo) → MakesBelow model max_next_id one) c.edit-item.is (c.is_low.ensures c.if-not-is_low.false))

pub returns : goal.returns
returns c = λ yes. subst (All (λ one. (model : ModelNo) → MakesBelow model max_next_id one)) (take_all c.loop-edit.edit-index c.args.edits.now c.loop-edit-test.false) c.loop-edit.invariant
