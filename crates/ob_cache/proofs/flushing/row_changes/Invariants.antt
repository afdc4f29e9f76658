use Rattle.std.proofs.Common.{take}
use Rattle.ob_cache.proofs.Gathering.{TurnedTo}
use Rattle.ob_cache.proofs.flushing.row_changes.Given as goal

-- the rows of the keys so far are changed, and no others
abbrev pub invariant-loop-key : goal.invariant-loop-key
invariant-loop-key l = TurnedTo l.old l.new (take l.key-index l.keys) l.changes
