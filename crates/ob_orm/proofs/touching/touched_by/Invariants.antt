use Rattle.std.proofs.Common.{◌≡◌, ◌≤◌, take}
use Rattle.ob_orm.proofs.TouchedRules.{Doing}
use Rattle.ob_orm.proofs.touching.touched_by.Given as goal

-- what the edits so far do
abbrev pub invariant-loop-edit : goal.invariant-loop-edit
invariant-loop-edit g l =
    Doing (g.K.Keeper.kept l.fn.engine.keeper.now) l.fn.engine.held (g.K.Keeper.kept l.engine.keeper.now) l.engine.held l.fn.first l.edits (take l.edit-index l.edits) l.touched
    × (g.K.Keeper.faults l.fn.engine.keeper.now ≤ g.K.Keeper.faults l.engine.keeper.now) × (l.engine.keeper.ghost_name ≡ l.fn.engine.keeper.ghost_name)
