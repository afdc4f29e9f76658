-- A line goes behind those before it, or a front of it does, where the sink fails.
use Rattle.std.proofs.Common.{arith}
use Rattle.ob_server.proofs.CallerLemmas.{at_any_error}
use Rattle.stockd.proofs.ReportWritten.{cut_in_line, line_more}
use Rattle.stockd.proofs.auditing.write_lines.Goals as goal

pub returns-in_err-write_line-clause-err : goal.returns-in_err-write_line-clause-err
returns-in_err-write_line-clause-err g c =
    at_any_error _ (cut_in_line _ _ _ c.args.lines.now c.loop-line.line-index c.line-item.result c.loop-line-test.true c.line-item.is c.loop-line.invariant.written
    (rw c.as_str.ensures at c.in_err-write_line.ensures.err))

pub loop-line-preserved : goal.loop-line-preserved
loop-line-preserved g c = record {
  written = line_more _ _ _ c.args.lines.now c.loop-line.line-index c.line-item.result c.loop-line-test.true c.line-item.is c.loop-line.invariant.written
      (rw c.as_str.ensures at c.in_ok-write_line.ensures.ok);
  faults = omega arith;
}
