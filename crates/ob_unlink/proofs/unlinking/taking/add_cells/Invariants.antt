-- The cells of the ids so far are added.
use Rattle.std.proofs.Common.{take}
use Rattle.ob_unlink.specs.DeletionSteps.{AddsCells}
use Rattle.ob_unlink.proofs.TakenMore.{OfRelation}
use Rattle.ob_unlink.proofs.unlinking.taking.add_cells.Given as goal

abbrev pub invariant-loop-id : goal.invariant-loop-id
invariant-loop-id l = AddsCells l.fn.cells l.cells (OfRelation l.relation (take l.id-index l.ids))
