-- User 1 has each right, and each row is admitted to him.
use Rattle.std.specs.List.{list_any}
use Rattle.std.proofs.lemmas.List.Elements.{filter_agree}
use Rattle.ob_base.specs.declared.id.RecId.{RecId}
use Rattle.ob_base.specs.declared.refusal.Op.TheVariants as op
use Rattle.ob_expr.specs.Meaning.{row_at}
use Rattle.ob_access.specs.Admission.{is_met, pass, rules_for}
use Rattle.ob_access.specs.Groups.{is_superuser}
use Rattle.ob_access.specs.Rights.{is_for, lines_for}
use Rattle.ob_access.specs.Views.{sees}
use Rattle.ob_access.specs.declared.policy.AccessLine.{AccessLine}
use Rattle.ob_access.proofs.Seeing.{all_seen}
use Rattle.ob_access.proofs.laws.user_1_sees_all.Goals as goal

pub returns-clause-rows : goal.returns-clause-rows
returns-clause-rows c = λ policy told own user first model id.
    all_seen (told.knows model id) (is_superuser user) (list_any (λ (line : AccessLine). is_for own line.group) (lines_for policy model op.Read))
    (pass (is_met told user (row_at model id)) own (rules_for policy model op.Read)) first

pub returns-clause-lists : goal.returns-clause-lists
returns-clause-lists c = λ policy told own user first model ids.
    filter_agree (λ (id : RecId). sees policy told own user model id) (told.knows model) (λ id.
    all_seen (told.knows model id) (is_superuser user) (list_any (λ (line : AccessLine). is_for own line.group) (lines_for policy model op.Read))
    (pass (is_met told user (row_at model id)) own (rules_for policy model op.Read)) first) ids
