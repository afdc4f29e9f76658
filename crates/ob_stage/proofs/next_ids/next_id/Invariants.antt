use Rattle.std.proofs.Common.{◌≡◌, ◌≤◌, ℕ, take}
use Rattle.std.specs.Prelude.{All}
use Rattle.ob_cache.specs.Standing.{NextIdsUpTo, OfStages, max_next_id}
use Rattle.ob_schema.specs.Tables.{next_of}
use Rattle.ob_stage.proofs.next_ids.next_id.Given as goal
use Rattle.ob_tables.specs.After.{after}
use Rattle.ob_tables.specs.Changes.{MakesBelow}

-- the id is the next one behind the edits so far
abbrev pub invariant-loop-edit : goal.invariant-loop-edit
invariant-loop-edit g l = record {
  next : OfStages (g.K.Keeper.kept l.fn.engine.keeper.now) l.fn.engine.held (λ at. l.next ≡ next_of (after l.fn.engine.held.models at.staged (take l.edit-index l.edits)) l.model);
  bound : (told bound : ℕ) → max_next_id ≤ told → told ≤ bound → NextIdsUpTo told l.fn.engine.held → All (MakesBelow l.model bound) l.edits → l.next ≤ bound;
}
