-- What is taken so far is of the models, by an engine that was asked alone; and as many more rows may be taken as a set can have.
use Rattle.std.proofs.Common.{◌+◌, ◌-◌, ◌*◌, ◌^◌, length}
use Rattle.ob_effect.specs.Deletion.{AreFitCells, AreFitRows}
use Rattle.ob_effect.specs.Effect.{Asks}
use Rattle.ob_effect.proofs.deletion.deletion_of.Given as goal

abbrev pub invariant-loop-next : goal.invariant-loop-next
invariant-loop-next g l = record {
  rows : AreFitRows l.fn.engine.held.models l.deletion.rows.items;
  cells : AreFitCells l.fn.engine.held.models l.deletion.cells.items;
  asks : Asks g.K.Keeper l.fn.engine l.engine;
}

abbrev pub decreases-loop-next : goal.decreases-loop-next
decreases-loop-next g l = 2 * (2 ^ 63 - length l.deletion.taken.keys) + length l.waiting.items
