-- The readers among the first fields are added.
use Rattle.ob_trigger.specs.Readers.{AddsReaders}
use Rattle.ob_trigger.proofs.Indexing.{OfFields}
use Rattle.ob_trigger.proofs.building.add_model.Given as goal

abbrev pub invariant-loop-place : goal.invariant-loop-place
invariant-loop-place l = AddsReaders l.fn.index l.index (OfFields l.schema l.model l.place)
