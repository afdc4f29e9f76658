use Rattle.std.proofs.Common.{◌≡◌, ◌*◌, ℤ, pos, neg_ℤ, ◌+ℤ◌, ◌≤ℤ◌, drop}
use Rattle.ob_group.specs.GroupAmounts.{total}
use Rattle.ob_group.specs.GroupValues.{column_of}
use Rattle.ob_group.proofs.amounts.total.Given as goal

-- with what is left it is the whole sum, and it is no larger than so many numbers of 64 bits make it
abbrev pub invariant-loop-row : goal.invariant-loop-row
invariant-loop-row l = record {
  sum : l.total +ℤ total (column_of l.number (drop l.row-index l.rows)) ≡ total (column_of l.number l.rows);
  low : neg_ℤ (pos (9223372036854775808 * l.row-index)) ≤ℤ l.total;
  high : l.total ≤ℤ pos (9223372036854775807 * l.row-index);
}
