-- The bytes that are done were written after what stood before.
use Rattle.std.proofs.Common.{◌≡◌, ◌≤◌, ◌-◌, length, take}
use Rattle.ob_http.specs.Written.{Wrote}
use Rattle.ob_http.proofs.writing.write_all.Given as goal

abbrev pub invariant-loop-done : goal.invariant-loop-done
invariant-loop-done g l =
    let door = g.D.Door in
    record {
      done : l.done ≤ length l.bytes;
      written : Wrote (door.written l.fn.door) (door.written l.door) (take l.done l.bytes);
      coming : door.coming l.door ≡ door.coming l.fn.door;
      left : door.left l.door ≡ door.left l.fn.door;
      faults : door.faults l.fn.door ≤ door.faults l.door;
      next_faults : door.next_faults l.door ≡ door.next_faults l.fn.door;
    }

abbrev pub decreases-loop-done : goal.decreases-loop-done
decreases-loop-done g l = length l.bytes - l.done
