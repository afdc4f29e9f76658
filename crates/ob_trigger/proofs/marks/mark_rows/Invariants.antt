-- The cells in the rows so far are marked.
use Rattle.std.proofs.Common.{◌≡◌, take}
use Rattle.std.specs.Prelude.{Contains}
use Rattle.ob_schema.specs.ReadCells.{cell_at}
use Rattle.ob_trigger.specs.Marks.{KeepsCount, MarksMore}
use Rattle.ob_trigger.proofs.marks.mark_rows.Given as goal

abbrev pub invariant-loop-id : goal.invariant-loop-id
invariant-loop-id l = record {
  marked : MarksMore l.fn.marked l.marked l.fn.waiting.items l.waiting.items (λ cell. (cell ≡ cell_at l.field cell.id) × Contains (take l.id-index l.id-items) cell.id);
  count : KeepsCount l.fn.marked l.marked l.fn.waiting.items l.waiting.items;
  items : l.id-items ≡ l.rows.keys;
}
