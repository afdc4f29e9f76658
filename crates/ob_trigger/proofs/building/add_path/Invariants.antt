-- The readers of the first steps are added.
use Rattle.ob_trigger.specs.Readers.{AddsReaders}
use Rattle.ob_trigger.proofs.Indexing.{OfFirst}
use Rattle.ob_trigger.proofs.building.add_path.Given as goal

abbrev pub invariant-loop-place : goal.invariant-loop-place
invariant-loop-place l = AddsReaders l.fn.index l.index (OfFirst l.computed l.steps l.place)
