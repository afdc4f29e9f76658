-- Each try that failed was counted.
use Rattle.std.proofs.Common.{◌<◌, ◌≤◌}
use Rattle.ob_io.specs.Cause.{Rose}
use Rattle.ob_io.proofs.host_door.accepted.Given as goal

abbrev pub invariant-loop-tried : goal.invariant-loop-tried
invariant-loop-tried l = record {
  no_fall : l.fn.faults ≤ l.faults;
  counted : 0 < l.tried → Rose l.fn.faults l.faults;
}
