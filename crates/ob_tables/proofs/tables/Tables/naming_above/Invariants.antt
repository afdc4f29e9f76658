use Rattle.std.proofs.Common.{◌≡◌, ◌≤◌, ◌++◌, filter, length, map}
use Rattle.ob_schema.specs.Plain.{naming}
use Rattle.ob_tables.proofs.FirstIds.{is_above}
use Rattle.ob_tables.proofs.tables.Tables.naming_above.Given as goal

-- the ids so far and those that are left are all above the one, and no more are taken than are asked for
abbrev pub invariant-loop-holding : goal.invariant-loop-holding
invariant-loop-holding l = record {
  all : l.ids ++ map (λ entry. entry.0.holder) l.holding-iterator ≡ filter (is_above l.fn.after) (naming l.self.tables l.fn.model l.fn.field l.fn.id);
  few : length l.ids ≤ l.fn.most;
}
