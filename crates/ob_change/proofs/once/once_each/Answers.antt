-- One cell more; and the cells so far are all in the end.
use Rattle.std.proofs.Common.{List, subst}
use Rattle.std.proofs.lemmas.List.{take_all}
use Rattle.ob_base.specs.declared.id.Cell.{Cell}
use Rattle.ob_change.proofs.MetCells.{AreSame, next-cell}
use Rattle.ob_change.proofs.once.once_each.Goals as goal

pub loop-cell-preserved : goal.loop-cell-preserved
loop-cell-preserved c =
    let none : Cell = record { model = record { 0 = 0 }; id = record { 0 = 0 }; field = record { 0 = 0 } } in (
      c.in_ok-add_new.ensures.met,
      next-cell c.args.cells.now c.loop-cell.cell-index none c.loop-cell.once.items c.add_new.new.once.items c.loop-cell-test.true c.loop-cell.invariant.1 c.in_ok-add_new.ensures.added,
    )

pub returns : goal.returns
returns c =
    subst (λ (l : List Cell). AreSame c.loop-cell.once.items l) (take_all c.loop-cell.cell-index c.args.cells.now c.loop-cell-test.false) c.loop-cell.invariant.1
