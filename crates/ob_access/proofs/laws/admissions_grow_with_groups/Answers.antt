use Rattle.ob_access.specs.Admission.{is_met, rules_for}
use Rattle.ob_access.specs.Groups.{is_superuser}
use Rattle.ob_access.proofs.Growing.{pass_grows}
use Rattle.ob_access.proofs.laws.admissions_grow_with_groups.Goals as goal

pub returns : goal.returns
returns c = λ policy told a b more user op row applied. pass_grows (is_met told user row) a b more (rules_for policy row.model op) applied (is_superuser user)
