-- The lines so far were written after what stood before.
use Rattle.std.proofs.Common.{◌≡◌, ◌≤◌, ◌++◌, take, option_map}
use Rattle.ob_server.specs.Session.{reply_lines}
use Rattle.stockd.proofs.auditing.write_lines.Given as goal

abbrev pub invariant-loop-line : goal.invariant-loop-line
invariant-loop-line g l =
    let written = g.W.Sink.written in
    let faults = g.W.Sink.faults in
    record {
      written : written l.output ≡ option_map (λ before. before ++ reply_lines (take l.line-index l.lines)) (written l.fn.output);
      faults : faults l.fn.output ≤ faults l.output;
    }
