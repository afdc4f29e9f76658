-- What the body has is the front of what was held and of what was read since.
use Rattle.std.proofs.Common.{◌≡◌, ◌-◌, ◌≤◌, List, ℕ, ◌++◌, length, take, drop, min}
use Rattle.ob_base.specs.Limits.{max_head_bytes}
use Rattle.ob_http.specs.Connection.{connection_of, ReadsOn}
use Rattle.ob_http.proofs.held.Held.body.Given as goal

abbrev pub invariant-loop-filled : goal.invariant-loop-filled
invariant-loop-filled g l =
    let door = g.D.Door in
    record {
      part : List ℕ;
      reads : ReadsOn (connection_of l.fn.self (door.left l.fn.door) (door.written l.fn.door)) (connection_of l.self (door.left l.door) (door.written l.door)) part;
      room : length l.body.items ≡ l.size;
      count : l.filled ≡ min l.size (length (l.fn.self.bytes ++ part));
      front : take l.filled l.body.items ≡ take l.size (l.fn.self.bytes ++ part);
      rest : l.self.bytes ≡ drop l.size (l.fn.self.bytes ++ part);
      few : length l.self.bytes ≤ max_head_bytes;
      faults : door.faults l.fn.door ≤ door.faults l.door;
      coming : door.coming l.door ≡ door.coming l.fn.door;
      next_faults : door.next_faults l.door ≡ door.next_faults l.fn.door;
    }

abbrev pub decreases-loop-filled : goal.decreases-loop-filled
decreases-loop-filled g l = l.size - l.filled
