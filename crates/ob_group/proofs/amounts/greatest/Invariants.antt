use Rattle.std.proofs.Common.{◌≡◌, drop}
use Rattle.ob_group.proofs.ToldAmounts.{greater_of}
use Rattle.ob_group.specs.GroupAmounts.{greatest}
use Rattle.ob_group.specs.GroupValues.{column_of}
use Rattle.ob_group.proofs.amounts.greatest.Given as goal

-- with what is left it is the greatest of all
abbrev pub invariant-loop-row : goal.invariant-loop-row
invariant-loop-row l = greater_of l.greatest (greatest (column_of l.number (drop l.row-index l.rows))) ≡ greatest (column_of l.number l.rows)
