use Rattle.std.proofs.Common.{take}
use Rattle.serde_json.specs.View.{members_view}
use Rattle.ob_fields.proofs.FieldsObject.{IsPutTo}
use Rattle.ob_fields.proofs.fields.fields_object.Given as goal

abbrev pub invariant-loop-number : goal.invariant-loop-number
invariant-loop-number l = IsPutTo l.schema l.model l.attributes (take l.number-index l.numbers) (members_view l.members.entries)
