use Rattle.std.proofs.lemmas.Result.{err_from_is_err_and}
use Rattle.ob_effect.proofs.CallSteps.{keeps_none}
use Rattle.ob_effect.proofs.MadeRows.{ok_three, one_made, row_made}
use Rattle.ob_effect.proofs.rows.stage_row.Goals as goal

pub returns-in_err-push-clause-kept : goal.returns-in_err-push-clause-kept
returns-in_err-push-clause-kept g c =
    let p = err_from_is_err_and c.from_residual.result c.from_residual.ensures.1 in
    rw p.1 (keeps_none g.K.Keeper c.args.engine.now)

pub returns-clause-made : goal.returns-clause-made
returns-clause-made g c =
    let edits = c.as_slice.result.now in
    let is = one_made c.args.row c.args.values c.new-edits.result.items c.push.new.self.items edits c.new-edits.ensures.items c.in_ok-push.ensures.items c.as_slice.ensures.value in
    ok_three c.stage.result (λ edited staged next. row_made g.K.Keeper c.args.engine.now c.stage.new.engine c.args.row c.args.values edits is c.requires.fit edited staged next c.next_ids_after.ensures.rises)
    c.stage.ensures.edited c.stage.ensures.staged c.stage.ensures.next_ids
