use Rattle.std.proofs.Common.{◌≡◌, ◌≤◌, take}
use Rattle.ob_rows.proofs.LeastDenied.{IsTesting}
use Rattle.ob_rows.proofs.asking.least_denied.Given as goal

-- the least of the rows so far
abbrev pub invariant-loop-row : goal.invariant-loop-row
invariant-loop-row g l =
    IsTesting (g.K.Keeper.kept l.fn.engine.keeper.now) l.fn.engine.held (g.K.Keeper.kept l.engine.keeper.now) l.engine.held l.by l.op (take l.row-index l.rows) l.least
    × (g.K.Keeper.faults l.fn.engine.keeper.now ≤ g.K.Keeper.faults l.engine.keeper.now) × (l.engine.keeper.ghost_name ≡ l.fn.engine.keeper.ghost_name)
