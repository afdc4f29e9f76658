use Rattle.std.proofs.Common.{◌≡◌, All}
use Rattle.std.specs.Vec.Iter.{into_iter_items}
use Rattle.ob_io.specs.Store.{all_changed, IsChangeFit}
use Rattle.ob_io.specs.Slots.{shown_store, HasRoom}
use Rattle.ob_io.proofs.slots.Slots.carry_out.Given as goal

-- the changes that are left lead to what all of them lead to, and have room
abbrev pub invariant-loop-change : goal.invariant-loop-change
invariant-loop-change l = record {
  rest : all_changed (into_iter_items l.change-iterator) (shown_store l.self) ≡ all_changed l.fn.changes.items (shown_store l.fn.self);
  room : All (HasRoom l.self) (into_iter_items l.change-iterator);
  fit : All IsChangeFit (into_iter_items l.change-iterator);
}
