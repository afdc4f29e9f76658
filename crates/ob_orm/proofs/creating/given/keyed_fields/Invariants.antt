use Rattle.std.proofs.Common.{◌≡◌, ◌++◌}
use Rattle.std.specs.Map.{keys_of}
use Rattle.ob_call.specs.Forms.{fields_at}
use Rattle.ob_orm.proofs.KeyedFields.{named_by}
use Rattle.ob_orm.proofs.creating.given.keyed_fields.Given as goal

-- the fields of the keys so far, and those of the rest, are those of all
abbrev pub invariant-loop-key : goal.invariant-loop-key
invariant-loop-key l = l.fields.items ++ named_by (fields_at l.schema l.model) l.key-iterator ≡ named_by (fields_at l.schema l.model) (keys_of l.members.entries)
