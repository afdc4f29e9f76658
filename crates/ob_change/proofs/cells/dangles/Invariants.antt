-- The rows so far are there.
use Rattle.std.proofs.Common.{◌<◌, ℕ, IsSome, get_or}
use Rattle.ob_schema.specs.Tables.{row_at}
use Rattle.ob_change.proofs.cells.dangles.Given as goal

abbrev pub invariant-loop-id : goal.invariant-loop-id
invariant-loop-id l = (k : ℕ) → k < l.id-index → IsSome (row_at l.tables.tables l.target (get_or l.id-items k (record { 0 = 0 })))
