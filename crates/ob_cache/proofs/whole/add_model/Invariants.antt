use Rattle.std.proofs.Common.{◌≡◌}
use Rattle.ob_cache.specs.Rooms.{AreRight, HaveValues, KeepsAll}
use Rattle.ob_cache.proofs.Filling.{IsBefore}
use Rattle.ob_cache.proofs.whole.add_model.Given as goal

-- the cells of the fields so far have values
abbrev pub invariant-loop-place : goal.invariant-loop-place
invariant-loop-place l = record {
  same : l.source ≡ l.fn.source;
  right : AreRight l.fn.source.models l.fn.source.tables l.values;
  kept : KeepsAll l.fn.values l.values;
  done : HaveValues l.fn.source.models l.fn.source.tables (IsBefore l.fn.source.models l.fn.source.tables l.model l.place) l.values;
}
