-- Rights on models and on fields.
use Rattle.std.specs.Prelude.{◌&&◌, ◌||◌, ◌==◌, if◌then◌else◌, Bool, true, false, List, Option, filter, option_and_then}
use Rattle.std.specs.List.{list_any}
use Rattle.std.specs.Option.{option_map_or}
use Rattle.ob_base.specs.declared.id.FieldNo.{FieldNo}
use Rattle.ob_base.specs.declared.id.ModelNo.{ModelNo}
use Rattle.ob_base.specs.declared.id.RecId.{RecId}
use Rattle.ob_base.specs.declared.refusal.Op.{Op}
use Rattle.ob_schema.specs.Built.{numbered}
use Rattle.ob_access.specs.Groups.{has_group, is_open_to, is_superuser}
use Rattle.ob_access.specs.Ops.{has_op}
use Rattle.ob_access.specs.Policies.{PolicyData}
use Rattle.ob_access.specs.declared.policy.AccessLine.{AccessLine}
use Rattle.ob_access.specs.declared.policy.FieldAccess.{FieldAccess}

-- the lines of a model that grant an operation
abbrev pub lines_for : PolicyData → ModelNo → Op → List AccessLine
lines_for policy model op = filter (λ line. (line.model.0 == model.0) && has_op line.ops op) policy.accesses

-- a line without a group is for every user, another for the users of its group
abbrev pub is_for : List RecId → Option RecId → Bool
is_for own group = option_map_or (has_group own) group true

-- the right to an operation on a model's rows: the caller is user 1, or one of the model's lines grants it to him
abbrev pub right : PolicyData → List RecId → RecId → ModelNo → Op → Bool
right policy own user model op = is_superuser user || list_any (λ line. is_for own line.group) (lines_for policy model op)

-- who may use a field of a model, each by its number
abbrev pub field_access_at : PolicyData → ModelNo → FieldNo → Option FieldAccess
field_access_at policy model field = option_and_then (λ fields. numbered fields field.0) (numbered policy.fields model.0)

-- a secret field is read by nobody, and written by those to whose groups it is open; another is read and written by those, and by user 1
abbrev pub allows : List RecId → RecId → Bool → FieldAccess → Bool
allows own user writing field = if field.secret then (writing && is_open_to own field.groups) else (is_superuser user || is_open_to own field.groups)

-- the right to read a field of a model, or to write it: there is the field, and it allows that
abbrev pub field_right : PolicyData → List RecId → RecId → ModelNo → FieldNo → Bool → Bool
field_right policy own user model field writing = option_map_or (allows own user writing) (field_access_at policy model field) false
