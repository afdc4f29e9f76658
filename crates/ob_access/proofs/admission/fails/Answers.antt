-- A group rule asks nothing.
use Rattle.ob_access.proofs.Asking.{asked_none}
use Rattle.ob_access.proofs.admission.fails.Goals as goal

pub returns-then-is_some-clause-asked : goal.returns-then-is_some-clause-asked
returns-then-is_some-clause-asked g c = asked_none _
