use Rattle.std.proofs.Common.{◌≡◌, ◌≤◌, ◌+◌, [], ℕ, take}
use Rattle.std.specs.Prelude.{All}
use Rattle.ob_cache.specs.Standing.{NextIdsUpTo, OfStages, Stays, max_next_id}
use Rattle.ob_orm.specs.NewRows.{parents_of, with_parents}
use Rattle.ob_orm.specs.NewRowSteps.{IsTyped, MayFit}
use Rattle.ob_stage.proofs.creating.begin_row.Given as goal
use Rattle.ob_stage.specs.Stage.{AreLinked}
use Rattle.ob_stage.specs.StageSteps.{MakesUpTo}

-- the parents so far are made
abbrev pub invariant-loop-parent : goal.invariant-loop-parent
invariant-loop-parent g l = record {
  begun : OfStages (g.K.Keeper.kept l.fn.engine.keeper.now) l.fn.engine.held (λ at.
      (l.begun.edits.items ≡ (with_parents l.maker.schema.now l.maker.author at.staged l.model l.values (take l.parent-index l.parents)).edits)
      × (l.begun.given.items ≡ (with_parents l.maker.schema.now l.maker.author at.staged l.model l.values (take l.parent-index l.parents)).given));
  typed : All (IsTyped l.maker.schema.now l.model) l.begun.given.items;
  fit : All (MayFit l.maker.schema.now) l.begun.edits.items;
  next_ids : (bound : ℕ) → max_next_id ≤ bound → NextIdsUpTo bound l.fn.engine.held → MakesUpTo (bound + l.parent-index) l.begun.edits.items;
  alone : AreLinked l.values (parents_of l.maker.schema.now l.model) → (l.begun.edits.items ≡ []) × (l.begun.given.items ≡ l.values);
  same : Stays (g.K.Keeper.kept l.fn.engine.keeper.now) l.fn.engine.held (g.K.Keeper.kept l.engine.keeper.now) l.engine.held;
  count : g.K.Keeper.faults l.fn.engine.keeper.now ≤ g.K.Keeper.faults l.engine.keeper.now;
  lender : l.engine.keeper.ghost_name ≡ l.fn.engine.keeper.ghost_name;
}
