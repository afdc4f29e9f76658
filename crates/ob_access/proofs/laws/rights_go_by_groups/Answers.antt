-- Groups count by whether a group is one of them.
use Rattle.std.proofs.Common.{◌||◌, ◌&&◌, Bool, List, cond, not, true, false, None, ap}
use Rattle.std.specs.Prelude.{filter, find, option_map}
use Rattle.std.specs.List.{list_all, list_any}
use Rattle.std.specs.Option.{option_map_or, option_or}
use Rattle.ob_base.specs.declared.id.RecId.{RecId}
use Rattle.ob_base.specs.declared.refusal.Op.TheVariants as op
use Rattle.ob_expr.specs.Meaning.{row_at}
use Rattle.ob_access.specs.Admission.{is_global, is_met, rules_for, some_met}
use Rattle.ob_access.specs.Groups.{is_superuser}
use Rattle.ob_access.specs.Policies.{RuleData}
use Rattle.ob_access.specs.Rights.{field_access_at, lines_for}
use Rattle.ob_access.specs.declared.policy.AccessLine.{AccessLine}
use Rattle.ob_access.specs.declared.policy.FieldAccess.{FieldAccess}
use Rattle.ob_access.proofs.Having.{has-same}
use Rattle.ob_access.proofs.laws.rights_go_by_groups.Goals as goal

pub returns-clause-right : goal.returns-clause-right
returns-clause-right c = λ policy a b same user model op.
    ap (λ (has : RecId → Bool). is_superuser user || list_any (λ (line : AccessLine). option_map_or has line.group true) (lines_for policy model op)) (has-same a b same)

pub returns-clause-field_right : goal.returns-clause-field_right
returns-clause-field_right c = λ policy a b same user model field writing.
    ap (λ (has : RecId → Bool). option_map_or (λ (access : FieldAccess). cond access.secret (writing && option_map_or (list_any has) access.groups true) (is_superuser user || option_map_or (list_any has) access.groups true))
    (field_access_at policy model field) false) (has-same a b same)

abbrev passed : (RuleData → Bool) → (RecId → Bool) → List RuleData → Bool
passed met has rules = list_all met (filter is_global rules) && some_met met (filter (λ rule. option_map_or (list_any has) rule.groups false) rules)

pub returns-clause-admits : goal.returns-clause-admits
returns-clause-admits c = λ policy told a b same user op row.
    ap (λ (has : RecId → Bool). is_superuser user || passed (is_met told user row) has (rules_for policy row.model op)) (has-same a b same)

pub returns-clause-denier : goal.returns-clause-denier
returns-clause-denier c = λ policy told a b same user op row.
    ap (λ (has : RecId → Bool). option_map (λ (rule : RuleData). rule.name) (cond (is_superuser user || passed (is_met told user row) has (rules_for policy row.model op)) None
    (option_or (find (λ rule. is_global rule && not (is_met told user row rule)) (rules_for policy row.model op)) (find (λ rule. option_map_or (list_any has) rule.groups false) (rules_for policy row.model op)))))
    (has-same a b same)

pub returns-clause-sees : goal.returns-clause-sees
returns-clause-sees c = λ policy told a b same user model id.
    ap (λ (has : RecId → Bool). told.knows model id && (is_superuser user || list_any (λ (line : AccessLine). option_map_or has line.group true) (lines_for policy model op.Read))
    && (is_superuser user || passed (is_met told user (row_at model id)) has (rules_for policy model op.Read))) (has-same a b same)
