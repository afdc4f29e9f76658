use Rattle.std.proofs.Common.{◌≡◌, drop}
use Rattle.ob_group.proofs.ToldAmounts.{lesser_of}
use Rattle.ob_group.specs.GroupAmounts.{least}
use Rattle.ob_group.specs.GroupValues.{column_of}
use Rattle.ob_group.proofs.amounts.least.Given as goal

-- with what is left it is the least of all
abbrev pub invariant-loop-row : goal.invariant-loop-row
invariant-loop-row l = lesser_of l.least (least (column_of l.number (drop l.row-index l.rows))) ≡ least (column_of l.number l.rows)
