use Rattle.std.proofs.Common.{string_bytes, true}
use Rattle.std.proofs.lemmas.Map.Text.{btree_set_updates_text}
use Rattle.ob_group.proofs.aggregates.take_key.Goals as goal

pub returns-clause-taken : goal.returns-clause-taken
returns-clause-taken c = λ name. rw c.in_ok-key.ensures.ok at (btree_set_updates_text (string_bytes c.in_ok-key.key) c.args.taken.now c.insert.new.self true c.in_ok-insert.ensures.updates name)
