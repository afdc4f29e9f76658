use Rattle.std.proofs.Common.{drop}
use Rattle.ob_group.proofs.Distinct.{HasKeys}
use Rattle.ob_group.specs.GroupAmounts.{set_values}
use Rattle.ob_group.specs.GroupValues.{column_of}
use Rattle.ob_group.proofs.amounts.distinct_count.Given as goal

-- with what is left it has the keys of all
abbrev pub invariant-loop-row : goal.invariant-loop-row
invariant-loop-row l = HasKeys (set_values (column_of l.number l.rows)) (set_values (column_of l.number (drop l.row-index l.rows))) l.distinct
