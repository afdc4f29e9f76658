-- One cell more.
use Rattle.std.proofs.Common.{List, subst, ◌∙◌}
use Rattle.std.specs.Prelude.{Contains}
use Rattle.std.proofs.lemmas.List.{take_all}
use Rattle.std.proofs.lemmas.Result.{err_from_is_err_and}
use Rattle.ob_base.specs.declared.id.Cell.{Cell}
use Rattle.ob_trigger.proofs.Asking.{alone_none, alone_then, fault_behind}
use Rattle.ob_trigger.proofs.Marking.{none_marked}
use Rattle.ob_trigger.proofs.RowCells.{AreThere, among-more, there-more, there-none}
use Rattle.ob_trigger.proofs.rows.there_behind.Goals as goal

pub loop-cell-init : goal.loop-cell-init
loop-cell-init g c = record {
  told = λ sides tells. there-none sides.behind c.new-there.result c.new-there.ensures.empty;
  among = λ cell marks. absurd (none_marked c.new-there.result cell c.new-there.ensures.empty marks);
  stays = alone_none _;
}

pub add_if_there-requires-clause-over : goal.add_if_there-requires-clause-over
add_if_there-requires-clause-over g c = c.loop-cell.invariant.stays.same ∙ c.requires.over

pub add_if_there-requires-clause-model : goal.add_if_there-requires-clause-model
add_if_there-requires-clause-model g c = c.requires.models c.loop-cell.cell-index _ c.loop-cell-test.true

pub loop-cell-preserved : goal.loop-cell-preserved
loop-cell-preserved g c = record {
  told = λ sides tells. there-more sides.behind c.args.cells.now c.loop-cell.cell-index _ c.loop-cell.there c.add_if_there.new.there c.loop-cell-test.true
      (c.in_ok-add_if_there.ensures.told sides (c.loop-cell.invariant.stays.kept sides tells)) (c.loop-cell.invariant.told sides tells);
  among = among-more c.args.cells.now c.loop-cell.cell-index _ c.loop-cell.there c.add_if_there.new.there c.loop-cell-test.true c.in_ok-add_if_there.ensures.among c.loop-cell.invariant.among;
  stays = alone_then _ _ _ c.loop-cell.invariant.stays c.add_if_there.ensures.stays;
}

pub returns-clause-told : goal.returns-clause-told
returns-clause-told g c = λ sides tells. subst (λ (l : List Cell). AreThere sides.behind l c.loop-cell.there) (take_all c.loop-cell.cell-index c.args.cells.now c.loop-cell-test.false) (c.loop-cell.invariant.told sides tells)

pub returns-clause-among : goal.returns-clause-among
returns-clause-among g c = λ cell marks. subst (λ (l : List Cell). Contains l cell) (take_all c.loop-cell.cell-index c.args.cells.now c.loop-cell-test.false) (c.loop-cell.invariant.among cell marks)

pub returns-in_err-add_if_there-clause-fault : goal.returns-in_err-add_if_there-clause-fault
returns-in_err-add_if_there-clause-fault g c =
    let p = err_from_is_err_and c.from_residual.result c.from_residual.ensures.1 in
    rw (p.1, p.2) (fault_behind g.W.Links.has_failed _ _ c.add_if_there.new.worlds c.in_err-add_if_there.field-0.0 c.loop-cell.invariant.stays.asked c.in_err-add_if_there.ensures.fault)

pub returns-in_err-add_if_there-clause-stays : goal.returns-in_err-add_if_there-clause-stays
returns-in_err-add_if_there-clause-stays g c = alone_then _ _ _ c.loop-cell.invariant.stays c.add_if_there.ensures.stays
