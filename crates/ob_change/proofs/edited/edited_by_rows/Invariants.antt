-- The cells so far are those that the rows so far edit.
use Rattle.std.proofs.Common.{[], take}
use Rattle.ob_change.proofs.Gaining.{BySome}
use Rattle.ob_change.proofs.edited.edited_by_rows.Given as goal
use Rattle.ob_change.specs.Changing.{models_of, sides_of}
use Rattle.ob_change.specs.EditedSteps.{Gains, RowEdits}

abbrev pub invariant-loop-key : goal.invariant-loop-key
invariant-loop-key l = Gains (BySome (RowEdits (models_of l.change) (sides_of l.change)) (take l.key-index l.change.touched.now)) [] l.cells.items
