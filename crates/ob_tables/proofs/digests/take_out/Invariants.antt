use Rattle.std.proofs.Common.{drop}
use Rattle.ob_tables.specs.Digests.{shown_found}
use Rattle.ob_tables.proofs.DigestedRows.{TakingOut}
use Rattle.ob_tables.proofs.digests.take_out.Given as goal

-- the digests in the sets so far are taken out
abbrev pub invariant-loop-set : goal.invariant-loop-set
invariant-loop-set l = TakingOut l.sets (drop l.set-index l.sets) l.key (shown_found l.old) (shown_found l.new) l.fn.digests l.digests
