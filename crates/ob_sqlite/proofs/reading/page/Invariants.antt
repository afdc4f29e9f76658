-- There is a row of each one found so far; their ids rise, above that one and up to the last.
use Rattle.std.proofs.Common.{◌≡◌, All, length, map}
use Rattle.ob_io.specs.Store.{IsAnswerOf}
use Rattle.ob_sqlite.proofs.Risen.{AreRisen}
use Rattle.ob_sqlite.proofs.reading.page.Given as goal

abbrev pub invariant-loop-row : goal.invariant-loop-row
invariant-loop-row g l = record {
  each : length l.rows ≡ l.row-index;
  ids : AreRisen l.fn.after l.last (map (λ row. row.id) l.rows);
  answers : All (λ row. IsAnswerOf row.id row) l.rows;
}
