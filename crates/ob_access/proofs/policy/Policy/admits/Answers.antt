-- A row is admitted where no rule denies it.
use Rattle.std.proofs.Common.{ap, sym, ◌∙◌}
use Rattle.std.specs.Prelude.{is_none}
use Rattle.ob_expr.specs.Meaning.{row_at}
use Rattle.ob_access.specs.Admission.{is_met, rules_for}
use Rattle.ob_access.specs.Groups.{is_superuser}
use Rattle.ob_access.specs.Policies.{rule_data}
use Rattle.ob_access.proofs.Denying.{none_denying}
use Rattle.ob_access.proofs.Ruled.{none_mapped, none_told}
use Rattle.ob_access.proofs.policy.Policy.admits.Goals as goal

pub returns-clause-admits : goal.returns-clause-admits
returns-clause-admits g c = λ told tells.
    none_told c.in_ok-denying.denying c.is_none.result c.is_none.ensures ∙ sym (none_mapped (λ r. rule_data r.now) c.in_ok-denying.denying) ∙ ap is_none (c.in_ok-denying.ensures.told told tells)
    ∙ none_denying (is_met told c.args.user (row_at c.args.model c.args.id)) c.args.groups.now (rules_for c.args.self.now c.args.model c.args.op) (is_superuser c.args.user)
