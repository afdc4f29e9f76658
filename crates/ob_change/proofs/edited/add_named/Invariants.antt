-- The cells so far are those before, and the lists by the fields so far.
use Rattle.ob_change.proofs.CellSteps.{ListsAt}
use Rattle.ob_change.proofs.Gaining.{Below}
use Rattle.ob_change.proofs.edited.add_named.Given as goal
use Rattle.ob_change.specs.Changing.{models_of, sides_of}
use Rattle.ob_change.specs.EditedSteps.{Gains}

abbrev pub invariant-loop-place : goal.invariant-loop-place
invariant-loop-place l = Gains (Below (ListsAt (models_of l.change) (sides_of l.change) l.own l.target l.ids) l.place) l.fn.cells.items l.cells.items
