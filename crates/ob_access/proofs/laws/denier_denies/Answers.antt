-- A rule denies exactly where its name is told.
use Rattle.std.proofs.Common.{◌≡◌, true, Option, Some, None, refl, sym, ◌∙◌}
use Rattle.std.specs.Prelude.{is_none, option_map}
use Rattle.ob_access.specs.Admission.{denying, is_met, rules_for}
use Rattle.ob_access.specs.Groups.{is_superuser}
use Rattle.ob_access.specs.Policies.{RuleData}
use Rattle.ob_access.proofs.Denying.{none_denying}
use Rattle.ob_access.proofs.laws.denier_denies.Goals as goal

none_named : (rule : Option RuleData) → option_map (λ r. r.name) rule ≡ None → is_none rule ≡ true
none_named None e = refl
none_named (Some r) e = cc

named_none : (rule : Option RuleData) → is_none rule ≡ true → option_map (λ r. r.name) rule ≡ None
named_none None e = refl
named_none (Some r) e = cc

pub returns : goal.returns
returns c = λ policy told own user op row.
    let same = none_denying (is_met told user row) own (rules_for policy row.model op) (is_superuser user) in
    (λ none. sym same ∙ none_named (denying policy told own user op row) none, λ admitted. named_none (denying policy told own user op row) (same ∙ admitted))
