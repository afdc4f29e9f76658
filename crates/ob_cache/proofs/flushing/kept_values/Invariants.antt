use Rattle.ob_cache.specs.Kept.{kept_value}
use Rattle.ob_cache.proofs.KeptValues.{GivenTo}
use Rattle.ob_cache.proofs.flushing.kept_values.Given as goal

-- the values of the fields so far
abbrev pub invariant-loop-place : goal.invariant-loop-place
invariant-loop-place l = GivenTo (kept_value l.whole.models l.whole.tables l.model l.id) l.field-items l.place l.values
