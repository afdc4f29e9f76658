-- A value that is no list is itself.
use Rattle.ob_access.proofs.Asking.{asked_none}
use Rattle.ob_access.proofs.Seeing.{uncut}
use Rattle.ob_access.proofs.policy.Policy.cut.Goals as goal

pub returns-in_default-clause-cut : goal.returns-in_default-clause-cut
returns-in_default-clause-cut g c = λ told tells. uncut c.args.self.now told c.args.groups.now c.args.user c.args.model c.args.value c.in_default.not-Refs

pub returns-in_default-clause-asked : goal.returns-in_default-clause-asked
returns-in_default-clause-asked g c = asked_none _
