-- One cell more that passes.
use Rattle.std.proofs.Common.{subst}
use Rattle.ob_change.specs.Testing.{BreaksNone, TellsKind}
use Rattle.ob_change.proofs.Turns.{all-more}
use Rattle.ob_change.proofs.passing.broken_cell.Goals as goal

pub returns-in-Some : goal.returns-in-Some
returns-in-Some c = subst (TellsKind c.args.change.schema.now c.args.change.behind.now.tables _) c.in-Some.is c.in_ok-kind.ensures

pub loop-cell-preserved : goal.loop-cell-preserved
loop-cell-preserved c =
    all-more (BreaksNone c.args.change.schema.now c.args.change.behind.now.tables) c.args.cells.now c.loop-cell.cell-index _ c.loop-cell-test.true c.loop-cell.invariant
    (subst (TellsKind c.args.change.schema.now c.args.change.behind.now.tables _) c.in_default.is c.in_ok-kind.ensures)
