use Rattle.std.proofs.Common.{◌≡◌, ◌≤◌, take}
use Rattle.ob_orm.proofs.TouchedRules.{Finding}
use Rattle.ob_orm.proofs.touching.rows_there.Given as goal

-- those of the rows so far that are there
abbrev pub invariant-loop-row : goal.invariant-loop-row
invariant-loop-row g l =
    Finding (g.K.Keeper.kept l.fn.engine.keeper.now) l.fn.engine.held (g.K.Keeper.kept l.engine.keeper.now) l.engine.held l.rows (take l.row-index l.rows) l.there.items
    × (g.K.Keeper.faults l.fn.engine.keeper.now ≤ g.K.Keeper.faults l.engine.keeper.now) × (l.engine.keeper.ghost_name ≡ l.fn.engine.keeper.ghost_name)
