use Rattle.std.proofs.Common.{◌≡◌}
use Rattle.serde_json.specs.View.{members_view}
use Rattle.ob_call.specs.Arguments.{entries}
use Rattle.ob_call.specs.Forms.{fields_at}
use Rattle.ob_commands.proofs.WrongObjects.{unknown_of}
use Rattle.ob_commands.specs.Asked.{unknown_key}
use Rattle.ob_commands.proofs.asked.forms.unknown_key.Given as goal

-- the first of all keys is the first of those that are left
abbrev pub invariant-loop-key : goal.invariant-loop-key
invariant-loop-key l = unknown_key (fields_at l.schema l.model) (entries (members_view l.members.entries)) ≡ unknown_of (fields_at l.schema l.model) l.key-iterator
