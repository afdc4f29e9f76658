-- The lines so far have come, and the bytes that are left to search get fewer.
use Rattle.std.proofs.Common.{◌-◌, length}
use Rattle.ob_http.specs.SoFar.{IsSoFar}
use Rattle.ob_http.proofs.lines.LinesSoFar.take_all.Given as goal

abbrev pub invariant-loop-offset : goal.invariant-loop-offset
invariant-loop-offset l = IsSoFar l.bytes l.self

abbrev pub decreases-loop-offset : goal.decreases-loop-offset
decreases-loop-offset l = length l.bytes - l.self.searched
