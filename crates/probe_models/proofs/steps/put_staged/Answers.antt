-- The edits make rows of low ids only.
use Rattle.std.proofs.Common.{◌≤◌, All, subst, sym, ◌∙◌, arith}
use Rattle.ob_base.specs.declared.id.ModelNo.{ModelNo}
use Rattle.ob_cache.specs.Standing.{max_next_id}
use Rattle.ob_tables.specs.Changes.{MakesBelow}
use Rattle.ob_tables.specs.declared.edit.Edit.{Edit}
use Rattle.probe_models.proofs.Ready.{staged_ready}
use Rattle.probe_models.proofs.steps.put_staged.Goals as goal

pub returns-in-Ok : goal.returns-in-Ok
returns-in-Ok c =
    let most : max_next_id ≤ max_next_id = omega arith in
    let low = subst (All (λ (one : Edit). (model : ModelNo) → MakesBelow model max_next_id one)) (c.as_slice-else-not-do_fit.ensures ∙ sym c.as_slice-2.ensures) (c.are_low.ensures c.if-not-are_low.false) in
    staged_ready c.stage.new.self.held c.in-Ok.ensures.phase
    (c.in-Ok.ensures.next_ids max_next_id most (λ model k d within. low k d within model) c.requires.next_ids)
