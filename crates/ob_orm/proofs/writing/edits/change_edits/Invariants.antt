use Rattle.std.proofs.Common.{◌≡◌, ◌≤◌, take}
use Rattle.std.specs.List.{flat_map}
use Rattle.std.specs.Prelude.{All}
use Rattle.ob_cache.specs.Standing.{RestsAt, Stays}
use Rattle.ob_orm.specs.Write.{edits_of_row}
use Rattle.ob_orm.specs.WriteSteps.{SetsFit}
use Rattle.ob_orm.proofs.writing.edits.change_edits.Given as goal
use Rattle.ob_schema.specs.Tables.{Tables}

-- the edits of the rows so far
abbrev pub invariant-loop-id : goal.invariant-loop-id
invariant-loop-id g l = record {
  same : Stays (g.K.Keeper.kept l.fn.engine.keeper.now) l.fn.engine.held (g.K.Keeper.kept l.engine.keeper.now) l.engine.held;
  count : g.K.Keeper.faults l.fn.engine.keeper.now ≤ g.K.Keeper.faults l.engine.keeper.now;
  lender : l.engine.keeper.ghost_name ≡ l.fn.engine.keeper.ghost_name;
  told : (tables : Tables) → RestsAt (g.K.Keeper.kept l.fn.engine.keeper.now) l.fn.engine.held tables
      → l.edits.items ≡ flat_map (edits_of_row l.maker.schema.now l.maker.author l.model tables l.given) (take l.id-index l.ids);
  fit : All (SetsFit l.maker.schema.now) l.edits.items;
}
