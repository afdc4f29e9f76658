-- The edits are staged, and make no row.
use Rattle.std.proofs.Common.{List, subst, sym}
use Rattle.std.specs.Prelude.{All}
use Rattle.ob_orm.proofs.CallerLemmas.{sets-below}
use Rattle.ob_stage.proofs.Stagings.{asked-flushed, err-then, ok-then, on_err, spoiled-flushed}
use Rattle.ob_stage.proofs.changing.stage_write.Goals as goal
use Rattle.ob_tables.specs.Changes.{MakesBelow}
use Rattle.ob_tables.specs.declared.edit.Edit.{Edit}

pub returns-in_err-edits-clause-left : goal.returns-in_err-edits-clause-left
returns-in_err-edits-clause-left g c = on_err _ _ (asked-flushed _ _ _ _ c.change_row.ensures.same)

pub returns-clause-next_ids : goal.returns-clause-next_ids
returns-clause-next_ids g c = ok-then c.stage.result _ _ (λ rise bound low next_ids.
    rise bound low (λ model. subst (λ (es : List Edit). All (MakesBelow model bound) es) (sym c.as_slice.ensures.value) (sets-below c.schema.result.now model bound c.in_ok-edits.edits.items c.in_ok-edits.ensures.fit))
    (c.change_row.ensures.same.next_ids bound low next_ids)) c.stage.ensures.next_ids

pub returns-clause-left : goal.returns-clause-left
returns-clause-left g c = err-then c.stage.result _ _ (λ failed. spoiled-flushed _ _ _ _ _ _ c.change_row.ensures.same failed) c.stage.ensures.spoiled
