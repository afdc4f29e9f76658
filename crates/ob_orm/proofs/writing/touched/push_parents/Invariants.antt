use Rattle.std.proofs.Common.{◌≡◌, ◌≤◌, ◌++◌, List, take}
use Rattle.std.specs.Prelude.{All, Contains}
use Rattle.std.specs.List.{filter_map}
use Rattle.ob_base.specs.declared.id.ModelNo.{ModelNo}
use Rattle.ob_cache.specs.Standing.{RestsAt, Stays}
use Rattle.ob_cache.specs.Telling.{TellsFacts}
use Rattle.ob_rows.specs.AskingSteps.{AreKnown}
use Rattle.ob_orm.specs.Touched.{parent_row}
use Rattle.ob_orm.specs.WriteSteps.{AreOfModels}
use Rattle.ob_orm.proofs.writing.touched.push_parents.Given as goal
use Rattle.ob_schema.specs.Facts.{OfAllTold}
use Rattle.ob_schema.specs.Tables.{Tables}

-- the rows of the parents so far
abbrev pub invariant-loop-parent : goal.invariant-loop-parent
invariant-loop-parent g l = record {
  same : Stays (g.K.Keeper.kept l.fn.engine.keeper.now) l.fn.engine.held (g.K.Keeper.kept l.engine.keeper.now) l.engine.held;
  count : g.K.Keeper.faults l.fn.engine.keeper.now ≤ g.K.Keeper.faults l.engine.keeper.now;
  lender : l.engine.keeper.ghost_name ≡ l.fn.engine.keeper.ghost_name;
  told : (tables : Tables) → RestsAt (g.K.Keeper.kept l.fn.engine.keeper.now) l.fn.engine.held tables
      → l.rows.items ≡ l.fn.rows.items ++ filter_map (parent_row l.fn.engine.held.models l.model l.given tables l.id) (take l.parent-index l.parents);
  known : OfAllTold (TellsFacts (g.K.Keeper.kept l.fn.engine.keeper.now) l.fn.engine.held) (λ told. AreKnown l.fn.rows.items told → AreKnown l.rows.items told);
  models : (ms : List ModelNo) → AreOfModels ms l.parents → All (λ row. Contains ms row.model) l.fn.rows.items → All (λ row. Contains ms row.model) l.rows.items;
}
