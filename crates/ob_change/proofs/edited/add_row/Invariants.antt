-- The cells so far are those before, and those that the row's cells so far edit.
use Rattle.std.proofs.Common.{◌+◌}
use Rattle.ob_change.proofs.Gaining.{Below}
use Rattle.ob_change.proofs.edited.add_row.Given as goal
use Rattle.ob_change.specs.Changing.{models_of, sides_of}
use Rattle.ob_change.specs.EditedSteps.{CellEdits, Gains, cell_in}

abbrev pub invariant-loop-place : goal.invariant-loop-place
invariant-loop-place l = Gains (Below (λ k. CellEdits (models_of l.change) (sides_of l.change) (cell_in l.key (record { 0 = k + 1 }))) l.place) l.fn.cells.items l.cells.items
