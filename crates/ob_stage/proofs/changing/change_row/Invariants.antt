use Rattle.std.proofs.Common.{◌≡◌, ◌≤◌, ◌++◌, false, take}
use Rattle.std.specs.List.{flat_map}
use Rattle.std.specs.Prelude.{All}
use Rattle.ob_cache.specs.Standing.{OfStages, Stays}
use Rattle.ob_orm.specs.NewRows.{filled, row_edits}
use Rattle.ob_orm.specs.Write.{parent_edits}
use Rattle.ob_orm.specs.WriteSteps.{SetsFit}
use Rattle.ob_stage.proofs.changing.change_row.Given as goal
use Rattle.ob_tables.specs.After.{after}

-- the row's own edits, and those of its parents so far, make of the staged tables what they make in a write
abbrev pub invariant-loop-parent : goal.invariant-loop-parent
invariant-loop-parent g l = record {
  told : OfStages (g.K.Keeper.kept l.fn.engine.keeper.now) l.fn.engine.held (λ at. after l.maker.schema.now at.staged l.edits.items
      ≡ after l.maker.schema.now at.staged (row_edits l.model (filled l.maker.schema.now l.maker.author false l.model l.given) l.id.0
      ++ flat_map (parent_edits l.maker.schema.now l.maker.author l.model at.staged l.given l.id.0) (take l.parent-index l.parents)));
  fit : All (SetsFit l.maker.schema.now) l.edits.items;
  same : Stays (g.K.Keeper.kept l.fn.engine.keeper.now) l.fn.engine.held (g.K.Keeper.kept l.engine.keeper.now) l.engine.held;
  count : g.K.Keeper.faults l.fn.engine.keeper.now ≤ g.K.Keeper.faults l.engine.keeper.now;
  lender : l.engine.keeper.ghost_name ≡ l.fn.engine.keeper.ghost_name;
}
