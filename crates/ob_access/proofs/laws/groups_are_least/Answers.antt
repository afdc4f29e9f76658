use Rattle.ob_access.proofs.Least.{least}
use Rattle.ob_access.proofs.laws.groups_are_least.Goals as goal

pub returns : goal.returns
returns c = least
