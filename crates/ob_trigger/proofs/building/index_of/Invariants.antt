-- The readers among the fields of the first models are there.
use Rattle.std.proofs.Common.{◌↔◌}
use Rattle.std.specs.Prelude.{Contains}
use Rattle.ob_schema.specs.declared.info.Step.{Step}
use Rattle.ob_trigger.specs.Readers.{readers_at}
use Rattle.ob_trigger.specs.declared.index.Reader.{Reader}
use Rattle.ob_trigger.proofs.Indexing.{OfModels}
use Rattle.ob_trigger.proofs.building.index_of.Given as goal

abbrev pub invariant-loop-place : goal.invariant-loop-place
invariant-loop-place l = (step : Step) (reader : Reader) → Contains (readers_at l.index step) reader ↔ OfModels l.schema l.place step reader
