-- The edits so far make rows of low ids.
use Rattle.std.proofs.Common.{All, take}
use Rattle.ob_base.specs.declared.id.ModelNo.{ModelNo}
use Rattle.ob_cache.specs.Standing.{max_next_id}
use Rattle.ob_tables.specs.Changes.{MakesBelow}
use Rattle.probe_models.proofs.steps.are_low.Given as goal

abbrev pub invariant-loop-edit : goal.invariant-loop-edit
invariant-loop-edit l = All (λ one. (model : ModelNo) → MakesBelow model max_next_id one) (take l.edit-index l.edits)
