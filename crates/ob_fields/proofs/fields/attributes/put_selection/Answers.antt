use Rattle.std.proofs.Common.{sym, ◌∙◌}
use Rattle.serde_json.specs.View.{members_view, view}
use Rattle.ob_fields.proofs.FieldsTold.{selection_put}
use Rattle.ob_fields.proofs.fields.attributes.put_selection.Goals as goal

pub returns-in_ok-put_member : goal.returns-in_ok-put_member
returns-in_ok-put_member c =
    selection_put c.args.field.now c.args.asked (view c.in_ok-choices.choices) (members_view c.args.members.now.entries) _ c.if-asked.true (sym c.is_selection.ensures ∙ c.if-is_selection.true)
    (rw c.as_slice.ensures at c.in_ok-choices.ensures) c.in_ok-put_member.ensures
