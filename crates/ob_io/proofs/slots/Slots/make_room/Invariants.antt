use Rattle.std.proofs.Common.{◌≡◌, All, take}
use Rattle.ob_io.specs.Slots.{shown_store, HasRoom}
use Rattle.ob_io.proofs.slots.Slots.make_room.Given as goal

-- nothing else is shown, and the changes so far have room
abbrev pub invariant-loop-change : goal.invariant-loop-change
invariant-loop-change l = record {
  same : shown_store l.self ≡ shown_store l.fn.self;
  room : All (HasRoom l.self) (take l.change-index l.changes);
}
