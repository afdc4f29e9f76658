use Rattle.std.proofs.Common.{length}
use Rattle.ob_trigger.proofs.walking.+rows_to.Given as goal

abbrev pub decreases-rows_to : goal.decreases-rows_to
decreases-rows_to g l = length l.steps.now
