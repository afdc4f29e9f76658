use Rattle.std.proofs.Common.{drop}
use Rattle.ob_tables.specs.Digests.{shown_found}
use Rattle.ob_tables.proofs.DigestedRows.{PuttingIn}
use Rattle.ob_tables.proofs.digests.put_in.Given as goal

-- the digests in the sets so far are put in
abbrev pub invariant-loop-set : goal.invariant-loop-set
invariant-loop-set l = PuttingIn l.sets (drop l.set-index l.sets) l.key (shown_found l.row) l.fn.digests l.digests
