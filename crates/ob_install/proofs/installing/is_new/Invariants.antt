use Rattle.std.proofs.Common.{◌≡◌, ◌≤◌}
use Rattle.ob_base.specs.declared.id.ModelNo.{ModelNo}
use Rattle.ob_cache.specs.Standing.{RestsAt, Stays}
use Rattle.ob_install.proofs.installing.is_new.Given as goal
use Rattle.ob_schema.specs.Models.{HasModel}
use Rattle.ob_schema.specs.Tables.{Tables, next_of}

-- the next ids of the first models are 1
abbrev pub invariant-loop-place : goal.invariant-loop-place
invariant-loop-place g l = record {
  told : (tables : Tables) → RestsAt (g.K.Keeper.kept l.fn.engine.keeper.now) l.fn.engine.held tables → (model : ModelNo) → HasModel l.fn.engine.held.models model → model.0 ≤ l.place → next_of tables model ≡ 1;
  same : Stays (g.K.Keeper.kept l.fn.engine.keeper.now) l.fn.engine.held (g.K.Keeper.kept l.engine.keeper.now) l.engine.held;
  count : g.K.Keeper.faults l.fn.engine.keeper.now ≤ g.K.Keeper.faults l.engine.keeper.now;
  lender : l.engine.keeper.ghost_name ≡ l.fn.engine.keeper.ghost_name;
}
