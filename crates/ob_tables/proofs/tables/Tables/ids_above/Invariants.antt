use Rattle.std.proofs.Common.{◌≡◌, ◌≤◌, ◌++◌, filter, length, map}
use Rattle.ob_schema.specs.Tables.{ids_in}
use Rattle.ob_tables.proofs.FirstIds.{is_above}
use Rattle.ob_tables.proofs.Rising.{entry_id}
use Rattle.ob_tables.proofs.tables.Tables.ids_above.Given as goal

-- the ids so far and those of the entries that are left are all above the one, and no more are taken than are asked for
abbrev pub invariant-loop-key : goal.invariant-loop-key
invariant-loop-key l = record {
  all : l.ids ++ map entry_id l.key-iterator ≡ filter (is_above l.fn.after) (ids_in l.self.tables l.fn.model);
  few : length l.ids ≤ l.fn.most;
}
