use Rattle.std.proofs.Common.{◌≡◌}
use Rattle.serde_json.specs.View.{members_view}
use Rattle.ob_call.specs.Arguments.{entries}
use Rattle.ob_call.specs.Forms.{fields_at}
use Rattle.ob_rows.specs.Values.{first_key, is_settable_name}
use Rattle.ob_orm.proofs.Expected.{first_refused}
use Rattle.ob_orm.proofs.creating.given.first_key.Given as goal

abbrev pub invariant-loop-key : goal.invariant-loop-key
invariant-loop-key l =
    first_key (is_settable_name l.schema (fields_at l.schema l.model)) (entries (members_view l.members.entries)) ≡ first_refused (is_settable_name l.schema (fields_at l.schema l.model)) l.key-iterator
