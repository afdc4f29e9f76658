use Rattle.std.proofs.Common.{◌≡◌, ◌≤◌, take}
use Rattle.std.specs.Prelude.{All, Contains}
use Rattle.ob_cache.specs.Standing.{RestsAt, Stays}
use Rattle.ob_cache.specs.Telling.{TellsFacts}
use Rattle.ob_rows.specs.AskingSteps.{AreKnown}
use Rattle.ob_rows.specs.Rights.{rows_named}
use Rattle.ob_orm.specs.Touched.{touched, touched_models}
use Rattle.ob_orm.proofs.writing.touched.touched_rows.Given as goal
use Rattle.ob_schema.specs.Facts.{OfAllTold}
use Rattle.ob_schema.specs.Tables.{Tables}

-- the rows of the ids so far
abbrev pub invariant-loop-id : goal.invariant-loop-id
invariant-loop-id g l = record {
  same : Stays (g.K.Keeper.kept l.fn.engine.keeper.now) l.fn.engine.held (g.K.Keeper.kept l.engine.keeper.now) l.engine.held;
  count : g.K.Keeper.faults l.fn.engine.keeper.now ≤ g.K.Keeper.faults l.engine.keeper.now;
  lender : l.engine.keeper.ghost_name ≡ l.fn.engine.keeper.ghost_name;
  told : (tables : Tables) → RestsAt (g.K.Keeper.kept l.fn.engine.keeper.now) l.fn.engine.held tables
      → l.rows.items ≡ touched l.fn.engine.held.models l.model l.given tables (take l.id-index l.ids);
  known : OfAllTold (TellsFacts (g.K.Keeper.kept l.fn.engine.keeper.now) l.fn.engine.held) (λ told. AreKnown (rows_named l.model l.ids) told → AreKnown l.rows.items told);
  models : All (λ row. Contains (touched_models l.fn.engine.held.models l.model l.given) row.model) l.rows.items;
}
