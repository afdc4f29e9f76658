-- The bytes that are done were written after what stood before.
use Rattle.std.proofs.Common.{◌≡◌, ◌≤◌, ◌-◌, ◌++◌, length, take, option_map}
use Rattle.ob_server.proofs.output.write_all.Given as goal

abbrev pub invariant-loop-done : goal.invariant-loop-done
invariant-loop-done g l =
    let written = g.W.Sink.written in
    let faults = g.W.Sink.faults in
    record {
      done : l.done ≤ length l.bytes;
      written : written l.output ≡ option_map (λ before. before ++ take l.done l.bytes) (written l.fn.output);
      faults : faults l.fn.output ≤ faults l.output;
    }

abbrev pub decreases-loop-done : goal.decreases-loop-done
decreases-loop-done g l = length l.bytes - l.done
