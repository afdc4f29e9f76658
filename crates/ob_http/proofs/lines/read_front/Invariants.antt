-- The lines of what is held are so far, and it grew by what was read.
use Rattle.std.proofs.Common.{◌≡◌, ◌-◌, ◌^◌, ◌<◌, ◌≤◌, List, ℕ, ◌++◌, length}
use Rattle.ob_base.specs.Limits.{max_head_bytes}
use Rattle.ob_http.specs.Connection.{connection_of, ReadsOn}
use Rattle.ob_http.specs.SoFar.{IsSoFar}
use Rattle.ob_http.proofs.lines.read_front.Given as goal

abbrev pub invariant-loop-head : goal.invariant-loop-head
invariant-loop-head g l =
    let door = g.D.Door in
    record {
      part : List ℕ;
      reads : l.held.taken < 2 ^ 64 → ReadsOn (connection_of l.fn.held (door.left l.fn.door) (door.written l.fn.door)) (connection_of l.held (door.left l.door) (door.written l.door)) part;
      bytes : l.held.bytes ≡ l.fn.held.bytes ++ part;
      lines : IsSoFar l.held.bytes l.lines;
      faults : door.faults l.fn.door ≤ door.faults l.door;
      coming : door.coming l.door ≡ door.coming l.fn.door;
      next_faults : door.next_faults l.door ≡ door.next_faults l.fn.door;
    }

abbrev pub decreases-loop-head : goal.decreases-loop-head
decreases-loop-head g l = max_head_bytes - length l.held.bytes
