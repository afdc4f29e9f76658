-- Each call has fewer links.
use Rattle.std.proofs.Common.{length}
use Rattle.probe_models.proofs.changes.+are_fit.Given as goal

abbrev pub decreases-are_fit : goal.decreases-are_fit
decreases-are_fit l = length l.links.now
