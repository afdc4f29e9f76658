-- One id more.
use Rattle.std.proofs.Common.{List, get_or, subst}
use Rattle.std.proofs.lemmas.List.{take_all}
use Rattle.ob_base.specs.declared.id.RecId.{RecId}
use Rattle.ob_unlink.specs.DeletionSteps.{AddsCells, cell_by}
use Rattle.ob_unlink.proofs.TakenRows.{adds-as, adds-none, adds-then, cell-one}
use Rattle.ob_unlink.proofs.TakenMore.{OfRelation, cells-more}
use Rattle.ob_unlink.proofs.unlinking.taking.add_cells.Goals as goal
use Rattle.ob_schema.proofs.CallerLemmas.{contains-none}

pub loop-id-init : goal.loop-id-init
loop-id-init c = adds-none _ _ (λ cell of. contains-none cell.id of.1)

pub loop-id-preserved : goal.loop-id-preserved
loop-id-preserved c =
    let none : RecId = record { 0 = 0 } in
    let cell = cell_by c.args.relation (get_or c.args.ids.now c.loop-id.id-index none) in
    adds-as _ _ _ _ (adds-then _ _ _ _ _ c.loop-id.invariant (cell-one c.loop-id.cells c.insert.new.self cell c.in_ok-insert.ensures.updates.0))
    (cells-more c.args.relation c.args.ids.now c.loop-id.id-index none c.loop-id-test.true)

pub returns : goal.returns
returns c =
    subst (λ (l : List RecId). AddsCells c.args.cells.now c.loop-id.cells (OfRelation c.args.relation l)) (take_all c.loop-id.id-index c.args.ids.now c.loop-id-test.false) c.loop-id.invariant
