use Rattle.std.proofs.Common.{rules, OnErr}
use Rattle.std.proofs.lemmas.Result.{on_err_weaker}
use Rattle.ob_cache.specs.Standing.{IsSpoiled, NextIdsUpTo, max_next_id}
use Rattle.ob_rows.proofs.SettledEdits.{settled_spoiled, staged_spoiled}
use Rattle.ob_rows.proofs.settling.stage_edits.Goals as goal

pub returns-in_err-stage-clause-spoiled : goal.returns-in_err-stage-clause-spoiled
returns-in_err-stage-clause-spoiled g c =
    let kept = g.K.Keeper.kept in
    let old = c.args.engine.now in
    let new = c.stage.new.self in
    let failed : OnErr c.from_residual.result (IsSpoiled (kept old.keeper.now) old.held (kept new.keeper.now) new.held) = search rules in
    on_err_weaker c.from_residual.result (staged_spoiled (kept old.keeper.now) (kept new.keeper.now) old.held new.held) failed

pub returns-clause-next_ids : goal.returns-clause-next_ids
returns-clause-next_ids g c =
    let below : NextIdsUpTo max_next_id c.stage.new.self.held = search rules in
    search rules

pub returns-in_err-settle-clause-spoiled : goal.returns-in_err-settle-clause-spoiled
returns-in_err-settle-clause-spoiled g c =
    let kept = g.K.Keeper.kept in
    let old = c.args.engine.now in
    let mid = c.stage.new.self in
    let new = c.settle.new.self in
    let failed : OnErr c.from_residual-in_err-settle.result (IsSpoiled (kept mid.keeper.now) mid.held (kept new.keeper.now) new.held) = search rules in
    on_err_weaker c.from_residual-in_err-settle.result (settled_spoiled (kept old.keeper.now) (kept mid.keeper.now) (kept new.keeper.now) old.held mid.held new.held c.args.edits.now (search rules) (search rules)) failed
