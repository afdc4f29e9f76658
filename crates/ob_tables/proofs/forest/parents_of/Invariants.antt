use Rattle.std.proofs.Common.{◌≡◌, ◌<◌, ℕ, Some, length}
use Rattle.std.specs.Prelude.{slice_get}
use Rattle.ob_base.specs.declared.id.RecId.{RecId}
use Rattle.ob_schema.specs.Tables.{kept_at}
use Rattle.ob_tables.specs.Trees.{Names, step_of}
use Rattle.ob_tables.proofs.forest.parents_of.Given as goal

-- a step for each row so far
abbrev pub invariant-loop-id : goal.invariant-loop-id
invariant-loop-id l = record {
  long : length l.steps.items ≡ l.id-index;
  up : (k : ℕ) (id : RecId) → k < l.id-index → slice_get l.fn.ids k ≡ Some id → Names l.fn.ids (kept_at l.fn.tables.tables (record { model = l.fn.model; id = id; field = l.fn.parent })) (step_of l.steps.items k);
}
