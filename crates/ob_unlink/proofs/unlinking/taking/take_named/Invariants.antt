-- The rows of the ids so far are taken.
use Rattle.std.proofs.Common.{take}
use Rattle.std.specs.Prelude.{Contains}
use Rattle.ob_unlink.specs.DeletionSteps.{KeepsCount, TakesMore}
use Rattle.ob_rows.specs.Rights.{rows_named}
use Rattle.ob_unlink.proofs.unlinking.taking.take_named.Given as goal

abbrev pub invariant-loop-id : goal.invariant-loop-id
invariant-loop-id l = record {
  rows : TakesMore l.fn.rows l.rows l.fn.waiting.items l.waiting.items (Contains (rows_named l.model (take l.id-index l.ids)));
  count : KeepsCount l.fn.rows l.rows l.fn.waiting.items l.waiting.items;
}
