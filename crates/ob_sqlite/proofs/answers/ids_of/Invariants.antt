-- There is an id of each row so far; they rise, above that one and up to the last.
use Rattle.std.proofs.Common.{◌≡◌, ◌<◌, ◌≤◌, All, length}
use Rattle.ob_base.specs.Rising.{IsRising}
use Rattle.ob_io.specs.Store.{Fits63}
use Rattle.ob_sqlite.proofs.answers.ids_of.Given as goal

abbrev pub invariant-loop-row : goal.invariant-loop-row
invariant-loop-row l = record {
  each : length l.ids ≡ l.row-index;
  above : All (λ id. (l.fn.after.0 < id.0) × Fits63 id.0) l.ids;
  below : All (λ id. id.0 ≤ l.last.0) l.ids;
  rising : IsRising l.ids;
  beyond : l.fn.after.0 ≤ l.last.0;
}
