use Rattle.std.proofs.Common.{◌≡◌}
use Rattle.ob_cache.specs.Rooms.{AreRight, HaveValues}
use Rattle.ob_cache.proofs.Filling.{IsUpTo}
use Rattle.ob_cache.proofs.whole.values_of.Given as goal

-- the cells of the models so far have values
abbrev pub invariant-loop-place : goal.invariant-loop-place
invariant-loop-place l = record {
  same : l.source ≡ l.fn.tables;
  right : AreRight l.fn.tables.models l.fn.tables.tables l.values;
  done : HaveValues l.fn.tables.models l.fn.tables.tables (IsUpTo l.fn.tables.models l.fn.tables.tables l.place) l.values;
}
