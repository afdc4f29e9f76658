-- The numbers so far and those that are left are all.
use Rattle.std.proofs.Common.{◌≡◌, ◌++◌}
use Rattle.ob_load.proofs.values.listed.Given as goal

abbrev pub invariant-loop-row : goal.invariant-loop-row
invariant-loop-row l = l.list ++ l.row-iterator ≡ l.fn.rows.keys
