use Rattle.std.proofs.Common.{◌≡◌, ◌++◌, map}
use Rattle.ob_schema.specs.Tables.{ids_in}
use Rattle.ob_tables.proofs.Rising.{entry_id}
use Rattle.ob_tables.proofs.tables.Tables.ids.Given as goal

-- the ids so far and those of the entries that are left are all
abbrev pub invariant-loop-key : goal.invariant-loop-key
invariant-loop-key l = l.ids ++ map entry_id l.key-iterator ≡ ids_in l.self.tables l.fn.model
