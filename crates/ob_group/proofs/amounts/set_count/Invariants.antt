use Rattle.std.proofs.Common.{◌≡◌, ◌+◌, ◌≤◌, drop, length}
use Rattle.ob_group.specs.GroupAmounts.{set_values}
use Rattle.ob_group.specs.GroupValues.{column_of}
use Rattle.ob_group.proofs.amounts.set_count.Given as goal

-- with what is left all are counted
abbrev pub invariant-loop-row : goal.invariant-loop-row
invariant-loop-row l = record {
  counted : l.count + length (set_values (column_of l.number (drop l.row-index l.rows))) ≡ length (set_values (column_of l.number l.rows));
  few : l.count ≤ l.row-index;
}
