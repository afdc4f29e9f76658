use Rattle.serde_json.specs.View.{members_view}
use Rattle.ob_query.proofs.ReadObjects.{IsToldTo}
use Rattle.ob_query.proofs.told_rows.known_object.Given as goal

abbrev pub invariant-loop-field : goal.invariant-loop-field
invariant-loop-field g l = IsToldTo g.K.Keeper l.by l.fn.engine l.model l.fields l.id l.engine l.field-index (members_view l.members.entries)
