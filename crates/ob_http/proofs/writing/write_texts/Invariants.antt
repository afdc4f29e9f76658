-- The texts that were passed were written, but for those that still wait.
use Rattle.std.proofs.Common.{◌≡◌, ◌≤◌, take}
use Rattle.std.specs.List.{flat_map}
use Rattle.ob_http.specs.Written.{WroteFront}
use Rattle.ob_http.proofs.writing.write_texts.Given as goal

abbrev pub invariant-loop-text : goal.invariant-loop-text
invariant-loop-text g l =
    let door = g.D.Door in
    record {
      written : WroteFront (door.written l.fn.door) (door.written l.door) (flat_map (λ text. text.now) (take l.text-index l.texts)) l.rest.items;
      coming : door.coming l.door ≡ door.coming l.fn.door;
      left : door.left l.door ≡ door.left l.fn.door;
      faults : door.faults l.fn.door ≤ door.faults l.door;
      next_faults : door.next_faults l.door ≡ door.next_faults l.fn.door;
    }
