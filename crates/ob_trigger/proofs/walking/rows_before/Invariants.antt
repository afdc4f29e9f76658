-- The rows so far are those whose cell leads to one of the targets so far.
use Rattle.std.proofs.Common.{◌≡◌, ◌↔◌, take}
use Rattle.std.specs.Prelude.{Contains}
use Rattle.ob_base.specs.declared.id.RecId.{RecId}
use Rattle.ob_schema.specs.Facts.{OfAllTold}
use Rattle.ob_schema.specs.Plain.{plain_at}
use Rattle.ob_schema.specs.ReadCells.{cell_at, targets_at}
use Rattle.ob_trigger.specs.Asking.{AskedAlone}
use Rattle.ob_trigger.proofs.walking.rows_before.Given as goal

abbrev pub invariant-loop-target : goal.invariant-loop-target
invariant-loop-target g l = record {
  told : OfAllTold (g.W.Links.tells l.fn.worlds) (λ sides. (row : RecId) → Contains l.before.keys row ↔ ((target : RecId) × Contains (take l.target-index l.target-items) target
      × Contains (targets_at (plain_at sides.before (g.W.Links.registry l.fn.worlds)) (cell_at l.step row)) target));
  items : l.target-items ≡ l.rows.keys;
  stays : AskedAlone g.W.Links.asks g.W.Links.registry g.W.Links.tells l.fn.worlds l.worlds;
}
