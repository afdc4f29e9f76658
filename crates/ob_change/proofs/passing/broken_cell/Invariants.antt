-- None of the cells so far breaks anything by itself.
use Rattle.std.specs.List.{AllWithin}
use Rattle.ob_change.specs.Testing.{BreaksNone}
use Rattle.ob_change.proofs.passing.broken_cell.Given as goal

abbrev pub invariant-loop-cell : goal.invariant-loop-cell
invariant-loop-cell l = AllWithin (BreaksNone l.fn.change.schema.now l.fn.change.behind.now.tables) l.cells 0 l.cell-index
