-- No row of the models so far names one that is gone.
use Rattle.std.proofs.Common.{◌≡◌, suc}
use Rattle.ob_base.specs.declared.id.Cell.{Cell}
use Rattle.ob_change.specs.Testing.{HoldsOne}
use Rattle.ob_change.proofs.Turns.{NoneBelow}
use Rattle.ob_change.proofs.gone.naming_gone.Given as goal

abbrev pub invariant-loop-place : goal.invariant-loop-place
invariant-loop-place l = NoneBelow (λ k. (cell : Cell) × (cell.model ≡ record { 0 = suc k }) × HoldsOne l.fn.change.schema.now l.fn.change.behind.now.tables l.gone.items cell) l.place
