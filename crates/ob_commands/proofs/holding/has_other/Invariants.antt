use Rattle.std.proofs.Common.{◌≡◌}
use Rattle.std.specs.List.{list_any}
use Rattle.serde_json.specs.View.{members_view}
use Rattle.ob_call.specs.Arguments.{entries}
use Rattle.ob_call.specs.Forms.{fields_at}
use Rattle.ob_commands.proofs.OtherNames.{any_key}
use Rattle.ob_commands.specs.Holding.{is_other_name}
use Rattle.ob_commands.proofs.holding.has_other.Given as goal

-- one of all keys is such a name where one of those that are left is
abbrev pub invariant-loop-key : goal.invariant-loop-key
invariant-loop-key l = list_any (λ e. is_other_name l.schema (fields_at l.schema l.model) e.0) (entries (members_view l.members.entries)) ≡ any_key l.schema (fields_at l.schema l.model) l.key-iterator
