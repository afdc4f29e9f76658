-- The cells so far are those before, and those of the rows so far that are there.
use Rattle.std.proofs.Common.{take}
use Rattle.ob_change.proofs.CellSteps.{CellAt}
use Rattle.ob_change.proofs.Gaining.{BySome}
use Rattle.ob_change.proofs.edited.add_cells.Given as goal
use Rattle.ob_change.specs.Changing.{sides_of}
use Rattle.ob_change.specs.EditedSteps.{Gains}

abbrev pub invariant-loop-id : goal.invariant-loop-id
invariant-loop-id l = Gains (BySome (CellAt (sides_of l.change) l.model l.field) (take l.id-index l.ids)) l.fn.cells.items l.cells.items
