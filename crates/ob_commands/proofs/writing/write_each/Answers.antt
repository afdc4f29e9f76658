use Rattle.ob_effect.proofs.CallerLemmas.{Goes, fails, goes_stepped, stopped}
use Rattle.ob_commands.proofs.writing.write_each.Goals as goal

pub returns-in_err-write_row : goal.returns-in_err-write_row
returns-in_err-write_row g c =
    let a = c.args.engine.now in
    let by = c.args.writer.now.by in
    let why = c.in_err-write_row.field-0.0 in
    record {
      step = fails g.K.Keeper by c.from_residual.result c.write_row.new.notes a c.write_row.new.engine why c.from_residual.ensures.1
          (stopped g.K.Keeper by a c.loop-id.engine c.write_row.new.engine why c.loop-id.invariant.edits c.in_err-write_row.ensures.step);
    }

pub loop-id-preserved : goal.loop-id-preserved
loop-id-preserved g c =
    let a = c.args.engine.now in
    let far : Goes g.K.Keeper a c.loop-id.engine c.loop-id.notes = record { edits = c.loop-id.invariant.edits; noted = c.loop-id.invariant.noted } in
    let now = goes_stepped g.K.Keeper a c.loop-id.engine c.write_row.new.engine c.loop-id.notes c.write_row.new.notes far c.in_ok-write_row.ensures.step in
    record { edits = now.edits; noted = now.noted }
