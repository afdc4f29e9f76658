use Rattle.ob_cache.proofs.Gathering.{ChangedTo}
use Rattle.ob_cache.proofs.flushing.changes.Given as goal

-- the changes of the rows, and of the next ids of the models so far
abbrev pub invariant-loop-place : goal.invariant-loop-place
invariant-loop-place l = ChangedTo l.old l.new l.place l.changes
