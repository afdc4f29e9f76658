use Rattle.std.proofs.Common.{◌≡◌, ◌≤◌, ◌++◌, false, take}
use Rattle.std.specs.List.{flat_map}
use Rattle.std.specs.Prelude.{All}
use Rattle.ob_cache.specs.Standing.{RestsAt, Stays}
use Rattle.ob_orm.specs.NewRows.{filled, row_edits}
use Rattle.ob_orm.specs.Write.{parent_edits}
use Rattle.ob_orm.specs.WriteSteps.{SetsFit}
use Rattle.ob_orm.proofs.writing.edits.push_row.Given as goal
use Rattle.ob_schema.specs.Tables.{Tables}

-- the row's own edits, and those of its parents so far
abbrev pub invariant-loop-parent : goal.invariant-loop-parent
invariant-loop-parent g l = record {
  same : Stays (g.K.Keeper.kept l.fn.engine.keeper.now) l.fn.engine.held (g.K.Keeper.kept l.engine.keeper.now) l.engine.held;
  count : g.K.Keeper.faults l.fn.engine.keeper.now ≤ g.K.Keeper.faults l.engine.keeper.now;
  lender : l.engine.keeper.ghost_name ≡ l.fn.engine.keeper.ghost_name;
  told : (tables : Tables) → RestsAt (g.K.Keeper.kept l.fn.engine.keeper.now) l.fn.engine.held tables
      → l.edits.items ≡ (l.fn.edits.items ++ row_edits l.model (filled l.maker.schema.now l.maker.author false l.model l.given) l.id)
      ++ flat_map (parent_edits l.maker.schema.now l.maker.author l.model tables l.given l.id) (take l.parent-index l.parents);
  fit : All (SetsFit l.maker.schema.now) l.fn.edits.items → All (SetsFit l.maker.schema.now) l.edits.items;
}
