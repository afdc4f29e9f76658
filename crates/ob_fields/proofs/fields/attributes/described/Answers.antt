use Rattle.std.proofs.Common.{ap, ◌∙◌}
use Rattle.serde_json.specs.View.{members_view}
use Rattle.serde_json.specs.Written.{has_float}
use Rattle.serde_json.proofs.Views.{view-Object}
use Rattle.ob_fields.proofs.FieldsTold.{PutInTurn, field_plain, field_told}
use Rattle.ob_fields.proofs.fields.attributes.described.Goals as goal

-- the members after each attribute
in_turn : (c : goal.In_ok-put_text-3) → PutInTurn c.args.schema.now c.args.field.now c.args.asked.now (members_view c.put_text.new.members.entries) (members_view c.put_flag.new.members.entries)
    (members_view c.put_relation.new.members.entries) (members_view c.put_flag-2.new.members.entries) (members_view c.put_selection.new.members.entries) (members_view c.put_flag-3.new.members.entries)
    (members_view c.put_text-2.new.members.entries) (members_view c.put_text-3.new.members.entries)
in_turn c = record {
  name = rw (c.as_str.ensures, c.new-members.ensures.empty) at c.in_ok-put_text.ensures;
  readonly = rw c.is_readonly.ensures at c.in_ok-put_flag.ensures;
  relation = c.in_ok-put_relation.ensures;
  required = c.in_ok-put_flag-2.ensures;
  selection = c.in_ok-put_selection.ensures;
  store = c.in_ok-put_flag-3.ensures;
  label = rw c.as_str-2.ensures at c.in_ok-put_text-2.ensures;
  type_name = rw c.type_name.ensures at c.in_ok-put_text-3.ensures;
}

pub returns-clause-told : goal.returns-clause-told
returns-clause-told c = λ texts are.
    view-Object c.put_text-3.new.members
    ∙ field_told c.args.schema.now texts c.args.field.now c.args.asked.now (members_view c.put_text.new.members.entries) (members_view c.put_flag.new.members.entries) (members_view c.put_relation.new.members.entries)
    (members_view c.put_flag-2.new.members.entries) (members_view c.put_selection.new.members.entries) (members_view c.put_flag-3.new.members.entries) (members_view c.put_text-2.new.members.entries)
    (members_view c.put_text-3.new.members.entries) are (in_turn c)

pub returns-clause-plain : goal.returns-clause-plain
returns-clause-plain c =
    ap has_float (view-Object c.put_text-3.new.members)
    ∙ field_plain c.args.schema.now c.args.field.now c.args.asked.now (members_view c.put_text.new.members.entries) (members_view c.put_flag.new.members.entries) (members_view c.put_relation.new.members.entries)
    (members_view c.put_flag-2.new.members.entries) (members_view c.put_selection.new.members.entries) (members_view c.put_flag-3.new.members.entries) (members_view c.put_text-2.new.members.entries)
    (members_view c.put_text-3.new.members.entries) (in_turn c)
