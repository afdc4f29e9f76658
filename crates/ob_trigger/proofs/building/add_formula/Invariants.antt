-- The readers of the steps of the first paths are added.
use Rattle.std.proofs.Common.{◌≡◌}
use Rattle.ob_trigger.specs.Readers.{AddsReaders}
use Rattle.ob_trigger.proofs.Indexing.{OfPaths}
use Rattle.ob_trigger.proofs.building.add_formula.Given as goal

abbrev pub invariant-loop-path : goal.invariant-loop-path
invariant-loop-path l = record {
  added : AddsReaders l.fn.index l.index (OfPaths l.computed l.path-items l.path-index);
  items : l.path-items ≡ l.formula.depends;
}
