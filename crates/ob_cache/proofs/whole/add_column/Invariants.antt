use Rattle.std.proofs.Common.{◌≡◌, take}
use Rattle.ob_cache.specs.Rooms.{AreRight, KeepsAll}
use Rattle.ob_cache.proofs.Filling.{HaveRows}
use Rattle.ob_cache.proofs.whole.add_column.Given as goal

-- the cells of the rows so far have values
abbrev pub invariant-loop-id : goal.invariant-loop-id
invariant-loop-id l = record {
  same : l.source ≡ l.fn.source;
  right : AreRight l.fn.source.models l.fn.source.tables l.values;
  kept : KeepsAll l.fn.values l.values;
  done : HaveRows l.model l.field (take l.id-index l.ids) l.values;
}
