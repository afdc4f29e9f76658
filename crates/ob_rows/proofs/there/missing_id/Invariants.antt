use Rattle.std.proofs.Common.{◌≡◌, ◌≤◌, take}
use Rattle.ob_rows.proofs.MissingRows.{IsSeeking}
use Rattle.ob_rows.proofs.there.missing_id.Given as goal

abbrev pub invariant-loop-id : goal.invariant-loop-id
invariant-loop-id g l =
    IsSeeking (g.K.Keeper.kept l.fn.engine.keeper.now) l.fn.engine.held (g.K.Keeper.kept l.engine.keeper.now) l.engine.held l.model (take l.id-index l.ids) l.missing
    × (g.K.Keeper.faults l.fn.engine.keeper.now ≤ g.K.Keeper.faults l.engine.keeper.now) × (l.engine.keeper.ghost_name ≡ l.fn.engine.keeper.ghost_name)
