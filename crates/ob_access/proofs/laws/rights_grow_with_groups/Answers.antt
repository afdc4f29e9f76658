-- More groups pass each test that fewer pass.
use Rattle.std.specs.List.{list_any}
use Rattle.ob_access.specs.Groups.{is_superuser}
use Rattle.ob_access.specs.Rights.{field_access_at, is_for, lines_for}
use Rattle.ob_access.specs.declared.policy.AccessLine.{AccessLine}
use Rattle.ob_access.proofs.Growing.{any_grows, either_grows, field_grows, for_grows}
use Rattle.ob_access.proofs.laws.rights_grow_with_groups.Goals as goal

pub returns-clause-right : goal.returns-clause-right
returns-clause-right c = λ policy a b more user model op.
    either_grows (is_superuser user) (list_any (λ (line : AccessLine). is_for a line.group) (lines_for policy model op)) (is_superuser user) (list_any (λ (line : AccessLine). is_for b line.group) (lines_for policy model op))
    (λ h. h) (any_grows (λ (line : AccessLine). is_for a line.group) (λ (line : AccessLine). is_for b line.group) (λ line. for_grows a b more line.group) (lines_for policy model op))

pub returns-clause-field_right : goal.returns-clause-field_right
returns-clause-field_right c = λ policy a b more user model field writing. field_grows a b more user writing (field_access_at policy model field)
