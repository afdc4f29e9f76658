-- None of the cells so far restricts.
use Rattle.std.proofs.Common.{take}
use Rattle.std.specs.Prelude.{All}
use Rattle.ob_unlink.specs.DeletionSteps.{IsRestricting}
use Rattle.ob_rows.specs.RowSets.{has_key}
use Rattle.ob_unlink.proofs.unlinking.barring.test_cells.Given as goal

abbrev pub invariant-loop-cell : goal.invariant-loop-cell
invariant-loop-cell l = All (λ cell. IsRestricting l.schema (has_key l.rows) cell → ⊥) (take l.cell-index l.cells)
